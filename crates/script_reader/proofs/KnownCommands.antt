-- The commands that words spell.
use Rattle.std.proofs.Common.{◌≡◌, inl, inr, ⊎_elim, ℕ, List, ◌++◌, refl, sym, ap, ◌∙◌, subst, append_assoc, codes}
use Rattle.script_reader.specs.declared.script.Command.{Command}
use Rattle.script_reader.specs.declared.script.Command.TheVariants.{Put, Set, Cut}
use Rattle.script_reader.specs.Spelling.{IsKnownCommand, IsEditWords}
use Rattle.script_reader.proofs.CommandWords as further
use Rattle.script_reader.proofs.CommandWords.{by_word}
use Rattle.script_reader.specs.Reading.{IsEditOf, IsRange, IsPutOrBad, IsSetOrBad, IsCutOrBad, IsKnownOrBad}

edit_before : (word words edit : List ℕ) (line : ℕ) (text : List ℕ) → words ≡ word ++ edit → IsEditOf edit line text → IsEditWords word words line text
edit_before word words edit line text e k =
    (k.0, k.1, e ∙ ap (λ (l : List ℕ). word ++ l) k.2 ∙ sym (append_assoc word k.0 k.1), k.3, k.4)

put_bad : (words edit : List ℕ) → words ≡ codes "put " ++ edit → ((line : ℕ) (text : List ℕ) → IsEditOf edit line text → ⊥) → (known : Command) → IsKnownCommand words known → ⊥
put_bad words edit e none known k =
    let behind = by_word 0 (record { word = codes "put "; further = further.edit Put }) words edit known refl e k in none behind.0 behind.1 behind.2

set_bad : (words edit : List ℕ) → words ≡ codes "set " ++ edit → ((line : ℕ) (text : List ℕ) → IsEditOf edit line text → ⊥) → (known : Command) → IsKnownCommand words known → ⊥
set_bad words edit e none known k =
    let behind = by_word 1 (record { word = codes "set "; further = further.edit Set }) words edit known refl e k in none behind.0 behind.1 behind.2

cut_bad : (words range : List ℕ) → words ≡ codes "cut " ++ range → ((from upto : ℕ) → IsRange range from upto → ⊥) → (known : Command) → IsKnownCommand words known → ⊥
cut_bad words range e none known k =
    let behind = by_word 2 (record { word = codes "cut "; further = further.range Cut }) words range known refl e k in none behind.0 behind.1 behind.2

pub put_known : (words edit : List ℕ) (c : Command) → words ≡ codes "put " ++ edit → IsPutOrBad edit c → IsKnownOrBad words c
put_known words edit c e h =
    ⊎_elim
    (λ a. inl (subst (IsKnownCommand words) (sym a.3) (edit_before (codes "put ") words edit a.0 a.1 e a.2)))
    (λ a. inr (a.1, put_bad words edit e a.0))
    h

pub set_known : (words edit : List ℕ) (c : Command) → words ≡ codes "set " ++ edit → IsSetOrBad edit c → IsKnownOrBad words c
set_known words edit c e h =
    ⊎_elim
    (λ a. inl (subst (IsKnownCommand words) (sym a.3) (edit_before (codes "set ") words edit a.0 a.1 e a.2)))
    (λ a. inr (a.1, set_bad words edit e a.0))
    h

range_before : (words range : List ℕ) (from upto : ℕ) → words ≡ codes "cut " ++ range → IsRange range from upto → IsKnownCommand words (Cut from upto)
range_before words range from upto e k = (k.0, k.1, e ∙ ap (λ (l : List ℕ). codes "cut " ++ l) k.2 ∙ simp append_assoc, k.3, k.4)

pub cut_known : (words range : List ℕ) (c : Command) → words ≡ codes "cut " ++ range → IsCutOrBad range c → IsKnownOrBad words c
cut_known words range c e h =
    ⊎_elim
    (λ a. inl (subst (IsKnownCommand words) (sym a.3) (range_before words range a.0 a.1 e a.2)))
    (λ a. inr (a.1, cut_bad words range e a.0))
    h
