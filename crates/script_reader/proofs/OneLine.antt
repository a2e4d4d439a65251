-- Bytes have one first line, and a line has one reading.
use Rattle.std.proofs.Common.{◌≡◌, ◌≢◌, ◌⊎◌, ⊎_elim, ℕ, ◌<◌, List, [], ◌∷◌, ◌++◌, length, refl, sym, ap, ap₂, ◌∙◌, subst, arith, append_assoc, length-append}
use Rattle.std.specs.Prelude.{All}
use Rattle.std.specs.Str.Parse.{digits_value}
use Rattle.std.proofs.lemmas.List.{append_cancel_right}
use Rattle.std.proofs.lemmas.List.Elements.{All-same}
use Rattle.script_reader.specs.declared.script.Command.{Command}
use Rattle.script_reader.specs.Lines.{IsTrimmed, IsFirstLine}
use Rattle.script_reader.specs.Spelling.{IsTail, IsKnownCommand, IsCommand, BeginsWithName}
use Rattle.script_reader.specs.Reading.{IsEditOf, IsRange}
use Rattle.script_reader.specs.Scripts.{ClientLine, IsClientLine}
use Rattle.script_reader.proofs.CommandWords.{Further, edit, range, nothing, IsBehindWord, listed, by_word}
use Rattle.script_reader.proofs.CutLaws.{one_cut, no_cut, one_space, name_plain, digits_plain, tail_ends}
use Rattle.plain_text.specs.Decimals.{IsNumeralOf}
use Rattle.plain_text.specs.Separators.{space, newline}

some_bytes : (bytes rest : List ℕ) → bytes ≢ [] → rest ≡ [] → length rest < length bytes
some_bytes [] rest some e = absurd (some refl)
some_bytes (b ∷ bytes) rest some e = omega (arith, ap length e)

-- the first line leaves less
pub first_shorter : (bytes line rest : List ℕ) → IsFirstLine bytes line rest → length rest < length bytes
first_shorter bytes line rest h =
    ⊎_elim
    (λ a. omega (arith, ap length a, length-append (h.raw ++ newline) rest, length-append h.raw newline))
    (λ a. some_bytes bytes rest h.some a.1)
    h.ended

one_raw : (bytes raw raw' rest rest' : List ℕ) → All (λ b. b ≢ 10) raw → All (λ b. b ≢ 10) raw' →
    (bytes ≡ raw ++ newline ++ rest) ⊎ ((bytes ≡ raw) × (rest ≡ [])) → (bytes ≡ raw' ++ newline ++ rest') ⊎ ((bytes ≡ raw') × (rest' ≡ [])) → (raw ≡ raw') × (rest ≡ rest')
one_raw bytes raw raw' rest rest' p p' h g =
    ⊎_elim
    (λ a. ⊎_elim
    (λ b. one_cut 10 raw raw' rest rest' p p' (sym (append_assoc raw newline rest) ∙ sym a ∙ b ∙ append_assoc raw' newline rest'))
    (λ b. absurd (no_cut 10 raw rest (All-same (λ b. b ≢ 10) (raw ++ 10 ∷ rest) raw' (sym (append_assoc raw newline rest) ∙ sym a ∙ b.0) p')))
    g)
    (λ a. ⊎_elim
    (λ b. absurd (no_cut 10 raw' rest' (All-same (λ b. b ≢ 10) (raw' ++ 10 ∷ rest') raw (sym (append_assoc raw' newline rest') ∙ sym b ∙ a.0) p)))
    (λ b. (sym a.0 ∙ b.0, a.1 ∙ sym b.1))
    g)
    h

one_trimmed : (raw line line' : List ℕ) → IsTrimmed raw line → IsTrimmed raw line' → line ≡ line'
one_trimmed raw line line' h g =
    ⊎_elim
    (λ a. ⊎_elim
    (λ b. append_cancel_right line line' (13 ∷ []) (sym a ∙ b))
    (λ b. absurd (b.1 line a))
    g)
    (λ a. ⊎_elim
    (λ b. absurd (a.1 line' b))
    (λ b. sym a.0 ∙ b.0)
    g)
    h

pub one_first : (bytes line line' rest rest' : List ℕ) → IsFirstLine bytes line rest → IsFirstLine bytes line' rest' → (line ≡ line') × (rest ≡ rest')
one_first bytes line line' rest rest' h g =
    let raws = one_raw bytes h.raw g.raw rest rest' h.plain g.plain h.ended g.ended in
    (one_trimmed g.raw line line' (subst (λ (r : List ℕ). IsTrimmed r line) raws.0 h.trimmed) g.trimmed, raws.1)

pub one_name : (line name name' tail tail' : List ℕ) → BeginsWithName line name tail → BeginsWithName line name' tail' → (name ≡ name') × (tail ≡ tail')
one_name line name name' tail tail' h g =
    one_space name name' tail tail' (name_plain name h.named) (name_plain name' g.named) h.ended g.ended (sym h.spelled ∙ g.spelled)

pub one_text : (tail text text' : List ℕ) → IsTail tail text → IsTail tail text' → text ≡ text'
one_text tail text text' h g =
    ⊎_elim
    (λ e. ⊎_elim (λ f. (let both : 32 ∷ text ≡ 32 ∷ text' = sym e ∙ f in cc)) (λ f. (let both : 32 ∷ text ≡ [] = sym e ∙ f.0 in cc)) g)
    (λ e. ⊎_elim (λ f. (let both : 32 ∷ text' ≡ [] = sym f ∙ e.0 in cc)) (λ f. e.1 ∙ sym f.1) g)
    h

same_value : (digits digits' : List ℕ) (m n : ℕ) → digits ≡ digits' → IsNumeralOf digits m → IsNumeralOf digits' n → m ≡ n
same_value digits digits' m n e h g = h.1 ∙ ap (digits_value 10) e ∙ sym g.1

one_edit : (bytes : List ℕ) (m n : ℕ) (text text' : List ℕ) → IsEditOf bytes m text → IsEditOf bytes n text' → (m ≡ n) × (text ≡ text')
one_edit bytes m n text text' h g =
    let cut = one_space h.0 g.0 h.1 g.1 (digits_plain h.0 m h.3) (digits_plain g.0 n g.3) (tail_ends h.1 text h.4) (tail_ends g.1 text' g.4) (sym h.2 ∙ g.2) in
    (same_value h.0 g.0 m n cut.0 h.3 g.3, one_text g.1 text text' (subst (λ (t : List ℕ). IsTail t text) cut.1 h.4) g.4)

range_cut : (bytes a b : List ℕ) → bytes ≡ a ++ space ++ b → bytes ≡ a ++ 32 ∷ b
range_cut bytes a b e = e ∙ append_assoc a space b

one_range : (bytes : List ℕ) (from upto from' upto' : ℕ) → IsRange bytes from upto → IsRange bytes from' upto' → (from ≡ from') × (upto ≡ upto')
one_range bytes from upto from' upto' h g =
    let behind : h.0 ++ 32 ∷ h.1 ≡ g.0 ++ 32 ∷ g.1 = sym (range_cut bytes h.0 h.1 h.2) ∙ range_cut bytes g.0 g.1 g.2 in
    let cut = one_cut 32 h.0 g.0 h.1 g.1 (digits_plain h.0 from h.3) (digits_plain g.0 from' g.3) behind in
    (same_value h.0 g.0 from from' cut.0 h.3 g.3, same_value h.1 g.1 upto upto' cut.1 h.4 g.4)

one_behind : (further : Further) (rest : List ℕ) (c d : Command) → IsBehindWord further rest c → IsBehindWord further rest d → c ≡ d
one_behind (edit make) rest c d h g = let e = one_edit rest h.0 g.0 h.1 g.1 h.2 g.2 in h.3 ∙ ap₂ make e.0 e.1 ∙ sym g.3
one_behind (range make) rest c d h g = let e = one_range rest h.0 h.1 g.0 g.1 h.2 g.2 in h.3 ∙ ap₂ make e.0 e.1 ∙ sym g.3
one_behind (nothing command) rest c d h g = h.1 ∙ sym g.1

pub one_known : (words : List ℕ) (c d : Command) → IsKnownCommand words c → IsKnownCommand words d → c ≡ d
one_known words c d h g =
    let l = listed words c h in
    one_behind l.row.further l.rest c d l.behind (by_word l.place l.row words l.rest d l.at l.begins g)

pub one_command : (tail : List ℕ) (c d : Command) → IsCommand tail c → IsCommand tail d → c ≡ d
one_command tail c d h g =
    ⊎_elim
    (λ a. ⊎_elim
    (λ b. (let both : 32 ∷ a.0 ≡ 32 ∷ b.0 = sym a.1 ∙ b.1 in
    let same : a.0 ≡ b.0 = cc in
    one_known b.0 c d (subst (λ (w : List ℕ). IsKnownCommand w c) same a.2) b.2))
    (λ b. absurd (b.1 a.0 c a.1 a.2))
    g)
    (λ a. ⊎_elim
    (λ b. absurd (a.1 b.0 d b.1 b.2))
    (λ b. a.0 ∙ sym b.0)
    g)
    h

pub one_entry : (line : List ℕ) (e f : ClientLine) → IsClientLine line e → IsClientLine line f → e ≡ f
one_entry line e f h g =
    let names = one_name line e.name f.name h.0 g.0 h.1 g.1 in
    ap₂ (λ (name : List ℕ) (command : Command). let made : ClientLine = record { name = name; command = command } in made) names.0
    (one_command g.0 e.command f.command (subst (λ (t : List ℕ). IsCommand t e.command) names.1 h.2) g.2)
