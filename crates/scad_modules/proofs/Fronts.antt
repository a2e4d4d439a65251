-- Values that are read one by one: what was read so far stands before what is read of the others.
use Rattle.std.proofs.Common.{◌≡◌, ℕ, ◌+◌, ◌<◌, ◌≤◌, List, [], ◌∷◌, ◌++◌, length, drop, get_or, Option, Some, None, refl, sym, ap, ◌∙◌, append_assoc, append-nil}
use Rattle.scad_value.specs.declared.value.Value.{Value}
use Rattle.scad_value.specs.Values.{Val, Vals, vals_from}
use Rattle.scad_value.specs.View.{val_of, vals_in}
use Rattle.scad_value.proofs.lemmas.Lists.{from_here, from_end}
use Rattle.scad_modules.specs.Reading.{with_first, each_in}

abbrev pub in_front : {A : Type 0} → List A → Option (List A) → Option (List A)
in_front xs None = None
in_front xs (Some ys) = Some (xs ++ ys)

-- what is left is read from one value on
module _ {A : Type 0} (read : Val → Option A) (vs : List Value) where
  abbrev pub read_from : ℕ → Option (List A)
  read_from i = each_in read (vals_from (vals_in (drop i vs)))

  read_here : (xs : List A) (i : ℕ) (v : Value) (o : Option A) → i < length vs → v ≡ get_or vs i v → o ≡ read (val_of v)
      → in_front xs (read_from i) ≡ in_front xs (with_first o (read_from (i + 1)))
  read_here xs i v o h e f =
      ap (λ (l : Vals). in_front xs (each_in read l)) (from_here vs i v h e)
      ∙ ap (λ (p : Option A). in_front xs (with_first p (read_from (i + 1)))) (sym f)

  -- one value more is read
  pub read_more : (all : Option (List A)) (xs : List A) (i : ℕ) (v : Value) (x : A) → i < length vs → v ≡ get_or vs i v
      → Some x ≡ read (val_of v) → in_front xs (read_from i) ≡ all → in_front (xs ++ x ∷ []) (read_from (i + 1)) ≡ all
  read_more all xs i v x h e f told = by_rest (read_from (i + 1)) ∙ sym (read_here xs i v (Some x) h e f) ∙ told
    where
      by_rest : (o : Option (List A)) → in_front (xs ++ x ∷ []) o ≡ in_front xs (with_first (Some x) o)
      by_rest None = refl
      by_rest (Some ys) = ap (λ l. Some l) (append_assoc xs (x ∷ []) ys)

  -- a value can't be read
  pub read_none : (all : Option (List A)) (xs : List A) (i : ℕ) (v : Value) → i < length vs → v ≡ get_or vs i v
      → None ≡ read (val_of v) → in_front xs (read_from i) ≡ all → all ≡ None
  read_none all xs i v h e f told = sym told ∙ read_here xs i v None h e f

  -- all values were read
  pub read_all : (all : Option (List A)) (xs : List A) (i : ℕ) → length vs ≤ i → in_front xs (read_from i) ≡ all → all ≡ Some xs
  read_all all xs i h told =
      sym told ∙ ap (λ (l : Vals). in_front xs (each_in read l)) (from_end vs i h) ∙ ap (λ l. Some l) (append-nil xs)
