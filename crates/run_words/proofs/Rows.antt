-- What the rows of clap's matches read, and what they say of the options of `run`.
use Rattle.std.proofs.Common.{◌≡◌, ◌∙◌, ℕ, Bool, cond, true, false, ◌||◌, true≢false, refl, sym, ap, ap₂, List, [], ◌∷◌, ◌++◌, Option, Some, None, codes, append-nil}
use Rattle.std.specs.List.{find}
use Rattle.std.specs.Prelude.{option_and_then, slice_get, bytes_eq}
use Rattle.clap.specs.Walk.{Row, Rule, Text, at_row, default_rows, more_values, first_of, has_row, one_of, reading_by, row_text, with_default, with_values, without}
use Rattle.clap.specs.declared.builder.value_parser.Reading.{Reading}
use Rattle.clap.specs.declared.builder.value_parser.Reading.TheVariants.{AsWritten}
use Rattle.clap.specs.declared.parser.matches.ValueSource.{ValueSource}
use Rattle.clap.specs.declared.parser.matches.ValueSource.TheVariants.{CommandLine, DefaultValue}
use Rattle.run_words.specs.declared.given.GivenOptions.{GivenOptions}
use Rattle.plain_text.specs.Decimals.{IsNumeralOf}
use Rattle.run_words.specs.Reading.{WritesNumberIfThere, SaysFlag, WriteOptions, flag_text}

-- a row with these values, from the words or from a default
abbrev pub row : ValueSource → Text → List Text → Row
row source name values = record { id = name; values = values; count = None; source = Some source; reading = AsWritten }

pub full : {X : Type 0} (x : X) (xs : List X) → x ∷ xs ≡ [] → ⊥
full x xs e = cc e

neither : (a b : Bool) → (a || b) ≡ false → (a ≡ false) × (b ≡ false)
neither true b e = absurd (true≢false e)
neither false b e = (refl, e)

-- ---- a row of a new name stands behind the others
no_at : (name : Text) (change : Row → List Row) (missing rows : List Row) → has_row name rows ≡ false → at_row name change missing rows ≡ rows ++ missing
no_at name change missing [] e = refl
no_at name change missing (r ∷ rs) e =
    let parts = neither (bytes_eq r.id name) (has_row name rs) e in
    rw parts.0 (ap (λ l. r ∷ l) (no_at name change missing rs parts.1))

pub new_values : (source : ValueSource) (name : Text) (values : List Text) (rows : List Row) → has_row name rows ≡ false
    → with_values name AsWritten source values rows ≡ rows ++ row source name values ∷ []
new_values source name values rows e = no_at name (more_values source values) (row source name values ∷ []) rows e

pub new_use : (name : Text) (values : List Text) (rows : List Row) → has_row name rows ≡ false
    → with_values name AsWritten CommandLine values (without name rows) ≡ rows ++ row CommandLine name values ∷ []
new_use name values rows e =
    let kept : without name rows ≡ rows = no_at name (λ _. []) [] rows e ∙ append-nil rows in
    rw kept (new_values CommandLine name values rows e)

-- ---- what the row of a name reads, by `read`
module _ (read : Row → Option Text) (name : Text) where
  abbrev picked : List Row → Option Text
  picked rows = option_and_then read (find (λ r. bytes_eq r.id name) rows)

  picked_more : (rows xs : List Row) (t : Text) → picked rows ≡ Some t → picked (rows ++ xs) ≡ Some t
  picked_more [] xs t e = cc e
  picked_more (r ∷ rs) xs t e = go (bytes_eq r.id name) (picked_more rs xs t) e
    where
      go : (b : Bool) → (picked rs ≡ Some t → picked (rs ++ xs) ≡ Some t) → option_and_then read (cond b (Some r) (find (λ r. bytes_eq r.id name) rs)) ≡ Some t
          → option_and_then read (cond b (Some r) (find (λ r. bytes_eq r.id name) (rs ++ xs))) ≡ Some t
      go true more f = f
      go false more f = more f

  picked_new : (rows : List Row) (x : Row) (t : Text) → has_row name rows ≡ false → bytes_eq x.id name ≡ true → read x ≡ Some t → picked (rows ++ x ∷ []) ≡ Some t
  picked_new [] x t e here is = rw here is
  picked_new (r ∷ rs) x t e here is =
      let parts = neither (bytes_eq r.id name) (has_row name rs) e in
      rw parts.0 (picked_new rs x t parts.1 here is)

  picked_none : (rows : List Row) → has_row name rows ≡ false → picked rows ≡ None
  picked_none [] e = refl
  picked_none (r ∷ rs) e =
      let parts = neither (bytes_eq r.id name) (has_row name rs) e in
      rw parts.0 (picked_none rs parts.1)

abbrev value_in : Row → Option Text
value_in r = slice_get r.values 0

-- a name with no row reads nothing
pub no_text : (name : Text) (rows : List Row) (t : Text) → has_row name rows ≡ false → first_of name rows ≡ Some t → ⊥
no_text name rows t none e = let nothing : first_of name rows ≡ None = picked_none value_in name rows none in cc (nothing, e)

pub no_flag : (name : Text) (rows : List Row) → has_row name rows ≡ false → one_of name rows ≡ Some (codes "true") → ⊥
no_flag name rows none e = let nothing : one_of name rows ≡ None = picked_none row_text name rows none in cc (nothing, e)

pub first_more : (name : Text) (rows xs : List Row) (t : Text) → first_of name rows ≡ Some t → first_of name (rows ++ xs) ≡ Some t
first_more name = picked_more value_in name

pub none_more : (name : Text) (rows : List Row) (x : Row) → bytes_eq x.id name ≡ false → has_row name rows ≡ false → has_row name (rows ++ x ∷ []) ≡ false
none_more name [] x other e = rw other refl
none_more name (r ∷ rs) x other e =
    let parts = neither (bytes_eq r.id name) (has_row name rs) e in
    rw parts.0 (none_more name rs x other parts.1)

-- ---- what the rows of the words say
abbrev pub KeyRow : List Row → Text → Option ℕ → Type 0
KeyRow rows name None = has_row name rows ≡ false
KeyRow rows name (Some n) = (t : Text) × (first_of name rows ≡ Some t) × IsNumeralOf t n

abbrev pub FlagRow : List Row → Text → Bool → Type 0
FlagRow rows name true = one_of name rows ≡ Some (codes "true")
FlagRow rows name false = has_row name rows ≡ false

pub key_kept : (name : Text) (rows : List Row) (x : Row) (o : Option ℕ) → bytes_eq x.id name ≡ false → KeyRow rows name o → KeyRow (rows ++ x ∷ []) name o
key_kept name rows x None other h = none_more name rows x other h
key_kept name rows x (Some n) other h = (h.0, first_more name rows (x ∷ []) h.0 h.1, h.2)

pub flag_kept : (name : Text) (rows : List Row) (x : Row) (b : Bool) → bytes_eq x.id name ≡ false → FlagRow rows name b → FlagRow (rows ++ x ∷ []) name b
flag_kept name rows x true other h = picked_more row_text name rows (x ∷ []) (codes "true") h
flag_kept name rows x false other h = none_more name rows x other h

pub first_new : (name : Text) (rows : List Row) (t : Text) → has_row name rows ≡ false → bytes_eq name name ≡ true
    → first_of name (rows ++ row CommandLine name (t ∷ []) ∷ []) ≡ Some t
first_new name rows t e here = picked_new value_in name rows (row CommandLine name (t ∷ [])) t e here refl

pub flag_new : (name : Text) (rows : List Row) → has_row name rows ≡ false → bytes_eq name name ≡ true
    → FlagRow (rows ++ row CommandLine name (codes "true" ∷ []) ∷ []) name true
flag_new name rows e here = picked_new row_text name rows (row CommandLine name (codes "true" ∷ [])) (codes "true") e here refl

abbrev pub RowsSay : List Row → GivenOptions → Type 0
RowsSay rows given =
    KeyRow rows (codes "workers") given.workers
    × KeyRow rows (codes "memo") given.memo
    × KeyRow rows (codes "share") given.share
    × FlagRow rows (codes "half") given.half
    × FlagRow rows (codes "tally") given.tally

-- ---- defaults
-- the row that a default adds, unless there is one
abbrev pub added : Text → Bool → List Row
added name true = []
added name false = row DefaultValue name (codes "false" ∷ []) ∷ []

pub no_default : (rows : List Row) (a : Rule) → a.defaults ≡ [] → with_default rows a ≡ rows
no_default rows a e = go (has_row a.id rows) (ap (λ d. default_rows a.id (reading_by a) d rows) e)
  where
    go : (b : Bool) → default_rows a.id (reading_by a) a.defaults rows ≡ rows → cond b rows (default_rows a.id (reading_by a) a.defaults rows) ≡ rows
    go true f = refl
    go false f = f

pub flag_default : (rows : List Row) (a : Rule) → a.defaults ≡ codes "false" ∷ [] → reading_by a ≡ AsWritten → with_default rows a ≡ rows ++ added a.id (has_row a.id rows)
flag_default rows a e how = go (has_row a.id rows) refl
  where
    go : (b : Bool) → has_row a.id rows ≡ b → cond b rows (default_rows a.id (reading_by a) a.defaults rows) ≡ rows ++ added a.id b
    go true f = sym (append-nil rows)
    go false f = ap₂ (λ (h : Reading) (d : List Text). default_rows a.id h d rows) how e ∙ new_values DefaultValue a.id (codes "false" ∷ []) rows f

none_added : (name other : Text) (b : Bool) (rows : List Row) → bytes_eq other name ≡ false → has_row name rows ≡ false → has_row name (rows ++ added other b) ≡ false
none_added name other true rows apart e = rw (append-nil rows) e
none_added name other false rows apart e = none_more name rows _ apart e

-- the rows of the words with the defaults of the two flags
abbrev pub whole : List Row → List Row
whole rows =
    let halved = rows ++ added (codes "half") (has_row (codes "half") rows) in
    halved ++ added (codes "tally") (has_row (codes "tally") halved)

pub whole_key : (name : Text) (rows : List Row) (o : Option ℕ) → bytes_eq (codes "half") name ≡ false → bytes_eq (codes "tally") name ≡ false
    → KeyRow rows name o → WritesNumberIfThere (first_of name (whole rows)) o
whole_key name rows None half tally h =
    let none : first_of name (whole rows) ≡ None =
    picked_none value_in name (whole rows) (none_added name (codes "tally") _ _ tally (none_added name (codes "half") _ _ half h)) in
    rw none tt
whole_key name rows (Some n) half tally h =
    let some : first_of name (whole rows) ≡ Some h.0 = first_more name _ _ h.0 (first_more name _ _ h.0 h.1) in
    rw some h.2

pub whole_first : (name : Text) (rows : List Row) (t : Text) → first_of name rows ≡ Some t → first_of name (whole rows) ≡ Some t
whole_first name rows t h = first_more name _ _ t (first_more name _ _ t h)

pub whole_half : (rows : List Row) (b : Bool) → FlagRow rows (codes "half") b → SaysFlag (whole rows) (codes "half") b
whole_half rows true h =
    picked_more row_text (codes "half") (rows ++ added (codes "half") (has_row (codes "half") rows)) (added (codes "tally") _) (codes "true")
    (picked_more row_text (codes "half") rows (added (codes "half") (has_row (codes "half") rows)) (codes "true") h)
whole_half rows false h =
    let here : added (codes "half") (has_row (codes "half") rows) ≡ row DefaultValue (codes "half") (codes "false" ∷ []) ∷ [] = rw h refl in
    picked_more row_text (codes "half") (rows ++ added (codes "half") (has_row (codes "half") rows)) (added (codes "tally") _) (codes "false")
    (rw here (picked_new row_text (codes "half") rows (row DefaultValue (codes "half") (codes "false" ∷ [])) (codes "false") h refl refl))

abbrev halved : List Row → List Row
halved rows = rows ++ added (codes "half") (has_row (codes "half") rows)

pub whole_tally : (rows : List Row) (b : Bool) → FlagRow rows (codes "tally") b → SaysFlag (whole rows) (codes "tally") b
whole_tally rows true h =
    picked_more row_text (codes "tally") (halved rows) (added (codes "tally") (has_row (codes "tally") (halved rows))) (codes "true")
    (picked_more row_text (codes "tally") rows (added (codes "half") (has_row (codes "half") rows)) (codes "true") h)
whole_tally rows false h =
    let none : has_row (codes "tally") (halved rows) ≡ false = none_added (codes "tally") (codes "half") (has_row (codes "half") rows) rows refl h in
    let here : added (codes "tally") (has_row (codes "tally") (halved rows)) ≡ row DefaultValue (codes "tally") (codes "false" ∷ []) ∷ [] = ap (added (codes "tally")) none in
    ap (λ l. one_of (codes "tally") (halved rows ++ l)) here
    ∙ picked_new row_text (codes "tally") (halved rows) (row DefaultValue (codes "tally") (codes "false" ∷ [])) (codes "false") none refl refl

pub whole_says : (rows : List Row) (given : GivenOptions) → RowsSay rows given → WriteOptions (whole rows) given
whole_says rows given h = (
  whole_key (codes "workers") rows given.workers refl refl h.0,
  whole_key (codes "memo") rows given.memo refl refl h.1,
  whole_key (codes "share") rows given.share refl refl h.2,
  whole_half rows given.half h.3,
  whole_tally rows given.tally h.4,
)

-- ---- what is said is one thing
one_number : (o : Option Text) (a b : Option ℕ) → WritesNumberIfThere o a → WritesNumberIfThere o b → a ≡ b
one_number None None None h g = refl
one_number None None (Some n) h g = absurd g
one_number None (Some n) b h g = absurd h
one_number (Some t) None b h g = absurd h
one_number (Some t) (Some n) None h g = absurd g
one_number (Some t) (Some n) (Some m) h g = ap Some (h.1 ∙ sym g.1)

-- the number that is said of a text is the one that it writes
pub number : (o : Option Text) (t : Text) (a : Option ℕ) → o ≡ Some t → WritesNumberIfThere o a → (n : ℕ) × IsNumeralOf t n
number o t None e h = absurd (rw e at h)
number o t (Some n) e h = (n, rw e at h)

one_flag : (o : Option Text) (a b : Bool) → o ≡ Some (flag_text a) → o ≡ Some (flag_text b) → a ≡ b
one_flag o true true h g = refl
one_flag o false false h g = refl
one_flag o true false h g = cc (h, g)
one_flag o false true h g = cc (h, g)

pub one_says : (rows : List Row) (given other : GivenOptions) → WriteOptions rows given → WriteOptions rows other → given ≡ other
one_says rows given other h g =
    let workers : given.workers ≡ other.workers = one_number _ _ _ h.0 g.0 in
    let memo : given.memo ≡ other.memo = one_number _ _ _ h.1 g.1 in
    let share : given.share ≡ other.share = one_number _ _ _ h.2 g.2 in
    let half : given.half ≡ other.half = one_flag _ _ _ h.3 g.3 in
    let tally : given.tally ≡ other.tally = one_flag _ _ _ h.4 g.4 in
    λ i. record { workers = workers i; memo = memo i; share = share i; half = half i; tally = tally i }
