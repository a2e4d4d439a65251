-- The words that tell the commands apart: bytes begin with one of them at most.
use Rattle.std.proofs.Common.{◌≡◌, ℕ, zero, suc, Bool, true, false, ◌&&◌, cond, eqb, List, [], ◌∷◌, ◌++◌, refl, sym, ap, ◌∙◌, subst, append_assoc, append-nil, codes}
use Rattle.std.proofs.lemmas.Bool.{and_parts, eq-eqb, false≢true}
use Rattle.std.proofs.lemmas.List.{append_cancel_left}
use Rattle.script_reader.specs.declared.script.Command.{Command}
use Rattle.script_reader.specs.declared.script.Command.TheVariants.{Put, Set, Cut, Show, Export, Bad}
use Rattle.script_reader.specs.Spelling.{IsKnownCommand}
use Rattle.script_reader.specs.Reading.{IsEditOf, IsRange}
use Rattle.plain_text.specs.Separators.{space}

-- what stands behind the word of a command: a number and a text, two numbers, or nothing
pub data Further : Type 0 where
  edit : (ℕ → List ℕ → Command) → Further
  range : (ℕ → ℕ → Command) → Further
  nothing : Command → Further

-- a word, and what stands behind it
pub record Row : Type 0 where
  pub word : List ℕ
  pub further : Further

-- the commands with their words; a new command has its row here, and one in `listed`
abbrev pub table : List Row
table =
    record { word = codes "put "; further = edit Put }
    ∷ record { word = codes "set "; further = edit Set }
    ∷ record { word = codes "cut "; further = range Cut }
    ∷ record { word = codes "show"; further = nothing Show }
    ∷ record { word = codes "export"; further = nothing Export }
    ∷ []

-- ---- words that differ
-- at some place both words have a byte, and not the same
abbrev apart : List ℕ → List ℕ → Bool
apart [] w = false
apart (a ∷ v) [] = false
apart (a ∷ v) (b ∷ w) = cond (eqb a b) (apart v w) true

-- the word of each row is apart from this one
abbrev apart_from_all : List ℕ → List Row → Bool
apart_from_all v [] = true
apart_from_all v (row ∷ rows) = apart v row.word && apart_from_all v rows

-- each two rows have words that are apart
abbrev are_apart : List Row → Bool
are_apart [] = true
are_apart (row ∷ rows) = apart_from_all row.word rows && are_apart rows

-- no bytes begin with two words that are apart
never_both : (v w x y : List ℕ) → apart v w ≡ true → v ++ x ≡ w ++ y → ⊥
never_both [] w x y h e = false≢true h
never_both (a ∷ v) [] x y h e = false≢true h
never_both (a ∷ v) (b ∷ w) x y h e =
    let heads : a ≡ b = cc in
    let tails : v ++ x ≡ w ++ y = cc in
    never_both v w x y (sym (ap (λ t. cond t (apart v w) true) (eq-eqb a b heads)) ∙ h) tails

-- the row stands at this place of the rows
abbrev IsAt : ℕ → List Row → Row → Type 0
IsAt n [] row = ⊥
IsAt zero (r ∷ rows) row = r ≡ row
IsAt (suc n) (r ∷ rows) row = IsAt n rows row

not_behind : (v : List ℕ) (n : ℕ) (rows : List Row) (row : Row) (x y : List ℕ) → apart_from_all v rows ≡ true → IsAt n rows row → v ++ x ≡ row.word ++ y → ⊥
not_behind v n [] row x y h at e = at
not_behind v zero (r ∷ rows) row x y h at e =
    never_both v r.word x y (and_parts (apart v r.word) (apart_from_all v rows) h).0 (e ∙ ap (λ (s : Row). s.word ++ y) (sym at))
not_behind v (suc n) (r ∷ rows) row x y h at e =
    not_behind v n rows row x y (and_parts (apart v r.word) (apart_from_all v rows) h).1 at e

-- bytes begin with the word of one row at most
one_row : (m n : ℕ) (rows : List Row) (r s : Row) (x y : List ℕ) → are_apart rows ≡ true → IsAt m rows r → IsAt n rows s → r.word ++ x ≡ s.word ++ y → r ≡ s
one_row m n [] r s x y h i j e = absurd i
one_row zero zero (row ∷ rows) r s x y h i j e = sym i ∙ j
one_row zero (suc n) (row ∷ rows) r s x y h i j e =
    absurd (not_behind row.word n rows s x y (and_parts (apart_from_all row.word rows) (are_apart rows) h).0 j (ap (λ (t : Row). t.word ++ x) i ∙ e))
one_row (suc m) zero (row ∷ rows) r s x y h i j e =
    absurd (not_behind row.word m rows r y x (and_parts (apart_from_all row.word rows) (are_apart rows) h).0 i (ap (λ (t : Row). t.word ++ y) j ∙ sym e))
one_row (suc m) (suc n) (row ∷ rows) r s x y h i j e =
    one_row m n rows r s x y (and_parts (apart_from_all row.word rows) (are_apart rows) h).1 i j e

-- ---- the commands
-- the bytes behind a word make it this command
abbrev pub IsBehindWord : Further → List ℕ → Command → Type 0
IsBehindWord (edit make) rest c = (line : ℕ) × (text : List ℕ) × IsEditOf rest line text × (c ≡ make line text)
IsBehindWord (range make) rest c = (from : ℕ) × (upto : ℕ) × IsRange rest from upto × (c ≡ make from upto)
IsBehindWord (nothing command) rest c = (rest ≡ []) × (c ≡ command)

-- the words spell this command by a row of the table
pub record IsListed (words : List ℕ) (c : Command) : Type 0 where
  pub place : ℕ
  pub row : Row
  pub at : IsAt place table row
  pub rest : List ℕ
  pub begins : words ≡ row.word ++ rest
  pub behind : IsBehindWord row.further rest c

listed_alone : (place : ℕ) (word words : List ℕ) (c : Command) → IsAt place table (record { word = word; further = nothing c }) → words ≡ word → IsListed words c
listed_alone place word words c at e =
    record { place = place; row = record { word = word; further = nothing c }; at = at; rest = []; begins = e ∙ sym (append-nil word); behind = (refl, refl) }

pub listed : (words : List ℕ) (c : Command) → IsKnownCommand words c → IsListed words c
listed words (Put line text) h =
    record { place = 0; row = record { word = codes "put "; further = edit Put }; at = refl; rest = h.0 ++ h.1; begins = h.2 ∙ append_assoc (codes "put ") h.0 h.1; behind = (line, text, (h.0, h.1, refl, h.3, h.4), refl) }
listed words (Set line text) h =
    record { place = 1; row = record { word = codes "set "; further = edit Set }; at = refl; rest = h.0 ++ h.1; begins = h.2 ∙ append_assoc (codes "set ") h.0 h.1; behind = (line, text, (h.0, h.1, refl, h.3, h.4), refl) }
listed words (Cut from upto) h =
    record { place = 2; row = record { word = codes "cut "; further = range Cut }; at = refl; rest = h.0 ++ space ++ h.1; begins = h.2 ∙ simp append_assoc; behind = (from, upto, (h.0, h.1, refl, h.3, h.4), refl) }
listed words Show h = listed_alone 3 (codes "show") words Show refl h
listed words Export h = listed_alone 4 (codes "export") words Export refl h
listed words Bad h = absurd h

-- bytes that begin with the word of a row are a command of this row, or none
pub by_word : (place : ℕ) (row : Row) (words rest : List ℕ) (c : Command) → IsAt place table row → words ≡ row.word ++ rest → IsKnownCommand words c → IsBehindWord row.further rest c
by_word place row words rest c at e h =
    let l = listed words c h in
    let same : l.row ≡ row = one_row l.place place table l.row row l.rest rest refl l.at at (sym l.begins ∙ e) in
    let spelled : row.word ++ l.rest ≡ row.word ++ rest = ap (λ (r : Row). r.word ++ l.rest) (sym same) ∙ sym l.begins ∙ e in
    subst (λ (bytes : List ℕ). IsBehindWord row.further bytes c) (append_cancel_left row.word l.rest rest spelled)
    (subst (λ (r : Row). IsBehindWord r.further l.rest c) same l.behind)
