-- Where lines and their parts are cut.
use Rattle.std.proofs.Common.{◌≡◌, ◌≢◌, ◌⊎◌, inl, inr, ⊎_elim, ℕ, List, [], ◌∷◌, ◌++◌, get_or, refl, sym, ap, ◌∙◌, subst, arith, append_assoc, append-nil}
use Rattle.std.specs.Prelude.{All, Option, Some, None, IfNone}
use Rattle.std.specs.Int.{IsInRange}
use Rattle.std.proofs.lemmas.Str.Parse.{digit_at}
use Rattle.std.proofs.lemmas.List.Elements.{All-head, All-tail, All-weaker, All-from_get_or}
use Rattle.plain_text.specs.Decimals.{IsShortNumeral, IsNumeralOf}
use Rattle.plain_text.specs.Separators.{space}
use Rattle.script_reader.specs.Spelling.{IsNameByte, IsName, IsTail, BeginsWithName}
use Rattle.script_reader.specs.Reading.{IsCutAtSpace, IsEditOf, IsRange}

-- a list has one cut at the first place of an item
pub one_cut : (a : ℕ) (f g r s : List ℕ) → All (λ b. b ≢ a) f → All (λ b. b ≢ a) g → f ++ a ∷ r ≡ g ++ a ∷ s → (f ≡ g) × (r ≡ s)
one_cut a [] [] r s hf hg e = (refl, cc)
one_cut a [] (y ∷ g) r s hf hg e = absurd (All-head (λ b. b ≢ a) y g hg cc)
one_cut a (x ∷ f) [] r s hf hg e = absurd (All-head (λ b. b ≢ a) x f hf cc)
one_cut a (x ∷ f) (y ∷ g) r s hf hg e =
    let heads : x ≡ y = cc in
    let rests : f ++ a ∷ r ≡ g ++ a ∷ s = cc in
    let cut = one_cut a f g r s (All-tail (λ b. b ≢ a) x f hf) (All-tail (λ b. b ≢ a) y g hg) rests in
    let front : f ≡ g = cut.0 in
    (cc, cut.1)

pub no_cut : (a : ℕ) (f r : List ℕ) → All (λ b. b ≢ a) (f ++ a ∷ r) → ⊥
no_cut a [] r h = All-head (λ b. b ≢ a) a r h refl
no_cut a (x ∷ f) r h = no_cut a f r (All-tail (λ b. b ≢ a) x (f ++ a ∷ r) h)

-- nothing, or something that begins with a space
abbrev pub Ends : List ℕ → Type 0
Ends tail = (tail ≡ []) ⊎ ((words : List ℕ) × (tail ≡ space ++ words))

plain_has_none : (f g s : List ℕ) → All (λ b. b ≢ 32) f → f ++ [] ≡ g ++ 32 ∷ s → ⊥
plain_has_none [] [] s h e = cc e
plain_has_none [] (y ∷ g) s h e = cc e
plain_has_none (x ∷ f) [] s h e = All-head (λ b. b ≢ 32) x f h cc
plain_has_none (x ∷ f) (y ∷ g) s h e = plain_has_none f g s (All-tail (λ b. b ≢ 32) x f h) cc

-- a list has one cut before its first space
pub one_space : (f g r s : List ℕ) → All (λ b. b ≢ 32) f → All (λ b. b ≢ 32) g → Ends r → Ends s → f ++ r ≡ g ++ s → (f ≡ g) × (r ≡ s)
one_space f g r s hf hg er es e =
    ⊎_elim
    (λ a. ⊎_elim
    (λ b. (sym (append-nil f) ∙ ap (λ (t : List ℕ). f ++ t) (sym a) ∙ e ∙ ap (λ (t : List ℕ). g ++ t) b ∙ append-nil g, a ∙ sym b))
    (λ b. absurd (plain_has_none f g b.0 hf (ap (λ (t : List ℕ). f ++ t) (sym a) ∙ e ∙ ap (λ (t : List ℕ). g ++ t) b.1)))
    es)
    (λ a. ⊎_elim
    (λ b. absurd (plain_has_none g f a.0 hg (ap (λ (t : List ℕ). g ++ t) (sym b) ∙ sym e ∙ ap (λ (t : List ℕ). f ++ t) a.1)))
    (λ b. (let cut = one_cut 32 f g a.0 b.0 hf hg (ap (λ (t : List ℕ). f ++ t) (sym a.1) ∙ e ∙ ap (λ (t : List ℕ). g ++ t) b.1) in
    (cut.0, a.1 ∙ ap (λ (t : List ℕ). 32 ∷ t) cut.1 ∙ sym b.1)))
    es)
    er

name_byte_plain : (b : ℕ) → IsNameByte b → b ≢ 32
name_byte_plain b h e = ⊎_elim (λ l. absurd (omega (arith, l))) (λ l. absurd (omega (arith, l))) h

pub name_plain : (name : List ℕ) → IsName name → All (λ b. b ≢ 32) name
name_plain name named = All-weaker IsNameByte (λ b. b ≢ 32) name_byte_plain name named.bytes

digit_plain : (b : ℕ) → IsInRange 48 57 b → b ≢ 32
digit_plain b h e = absurd (omega (arith, h))

pub digits_plain : (digits : List ℕ) (n : ℕ) → IsNumeralOf digits n → All (λ b. b ≢ 32) digits
digits_plain digits n w = All-from_get_or (λ b. b ≢ 32) digits 0 (λ i below. digit_plain (get_or digits i 0) (digit_at digits i w.0.digits below))

pub tail_ends : (tail text : List ℕ) → IsTail tail text → Ends tail
tail_ends tail text h = ⊎_elim (λ e. inr (text, e)) (λ e. inl e.0) h

-- the name of a line is what stands before its first space
pub name_is : (line front behind name tail : List ℕ) → IsCutAtSpace line front behind → BeginsWithName line name tail → (name ≡ front) × (tail ≡ behind)
name_is line front behind name tail cut h =
    one_space name front tail behind (name_plain name h.named) cut.plain h.ended cut.ended (sym h.spelled ∙ cut.spelled)

pub no_name : (line front behind : List ℕ) → IsCutAtSpace line front behind → (IsName front → ⊥) → (name tail : List ℕ) → BeginsWithName line name tail → ⊥
no_name line front behind cut none name tail h = none (subst IsName (name_is line front behind name tail cut h).0 h.named)

pub edit_is : (bytes front behind digits tail text : List ℕ) (line : ℕ) → IsCutAtSpace bytes front behind → bytes ≡ digits ++ tail → IsNumeralOf digits line → IsTail tail text → (digits ≡ front) × (tail ≡ behind)
edit_is bytes front behind digits tail text line cut e w t =
    one_space digits front tail behind (digits_plain digits line w) cut.plain (tail_ends tail text t) cut.ended (sym e ∙ cut.spelled)

pub no_edit : (bytes front behind : List ℕ) → IsCutAtSpace bytes front behind → (IsShortNumeral front → ⊥) → (line : ℕ) (text : List ℕ) → IsEditOf bytes line text → ⊥
no_edit bytes front behind cut none line text h =
    none (subst IsShortNumeral (edit_is bytes front behind h.0 h.1 text line cut h.2 h.3 h.4).0 h.3.0)

pub range_is : (bytes front behind digits digits' : List ℕ) (from : ℕ) → IsCutAtSpace bytes front behind → bytes ≡ digits ++ space ++ digits' → IsNumeralOf digits from → (digits ≡ front) × (space ++ digits' ≡ behind)
range_is bytes front behind digits digits' from cut e w =
    one_space digits front (space ++ digits') behind (digits_plain digits from w) cut.plain (inr (digits', refl)) cut.ended
    (sym (append_assoc digits space digits') ∙ sym e ∙ cut.spelled)

pub no_first : (bytes front behind : List ℕ) → IsCutAtSpace bytes front behind → (IsShortNumeral front → ⊥) → (from upto : ℕ) → IsRange bytes from upto → ⊥
no_first bytes front behind cut none from upto h =
    none (subst IsShortNumeral (range_is bytes front behind h.0 h.1 from cut h.2 h.3).0 h.3.0)

pub no_second : (bytes front behind second : List ℕ) (b : ℕ) → IsCutAtSpace bytes front behind → behind ≡ b ∷ second → (IsShortNumeral second → ⊥) → (from upto : ℕ) → IsRange bytes from upto → ⊥
no_second bytes front behind second b cut e none from upto h =
    let both : 32 ∷ h.1 ≡ b ∷ second = (range_is bytes front behind h.0 h.1 from cut h.2 h.3).1 ∙ e in
    let same : h.1 ≡ second = cc in
    none (subst IsShortNumeral same h.4.0)

pub no_space : (bytes front behind : List ℕ) → IsCutAtSpace bytes front behind → behind ≡ [] → (from upto : ℕ) → IsRange bytes from upto → ⊥
no_space bytes front behind cut e from upto h =
    let both : 32 ∷ h.1 ≡ [] = (range_is bytes front behind h.0 h.1 from cut h.2 h.3).1 ∙ e in
    cc both

-- what holds anyway holds of no answer
pub none_anyway : {X : Type 0} (r : Option X) (P : Type 0) → P → IfNone r P
none_anyway None P p = p
none_anyway (Some x) P p = tt
