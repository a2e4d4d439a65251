-- Lists of values that are as long as a function wants them, and others.
use Rattle.std.proofs.Common.{◌≡◌, suc, List, [], ◌∷◌, ◌++◌, length, refl, sym, ap, ◌∙◌, append_assoc, append-nil, ℤ, Bool, Err}
use Rattle.text_place.specs.declared.fault.FaultKind.TheVariants.{TypeMismatch}
use Rattle.scad_value.specs.declared.value.Value.{Value}
use Rattle.scad_value.specs.Values.{Val, NumberVal, TruthVal, TextVal, ListVal, RangeVal, UndefVal, vals_from, count_of}
use Rattle.scad_value.specs.Operators.{AnswerOrFault}
use Rattle.scad_value.specs.View.{val_of, vals_in}
use Rattle.scad_builtin.specs.declared.function.Builtin.{Builtin}
use Rattle.scad_builtin.specs.declared.function.Builtin.TheVariants.{Abs, Sign, Floor, Ceil, Round, Min, Max, Len, Concat, Pow, IsUndef, IsNum, IsBool, IsList}
use Rattle.scad_builtin.specs.Builtins.{of_one, of_two, best_number, best_among, list_of, items_as, joined_items, builtin_value}
use Rattle.scad_builtin.specs.Rows.{value_row}

pub length_in : (vs : List Value) (ws : List Val) → vals_in vs ≡ ws → length ws ≡ length vs
length_in vs ws e = ap length (sym e) ∙ mapped vs
  where
    mapped : (vs : List Value) → length (vals_in vs) ≡ length vs
    mapped [] = refl
    mapped (v ∷ vs) = ap suc (mapped vs)

pub not_one : (row : Val → AnswerOrFault Val) (ws : List Val) → (length ws ≡ 1 → ⊥) → of_one row (vals_from ws)
    ≡ Err TypeMismatch
not_one row [] h = refl
not_one row (v ∷ []) h = absurd (h refl)
not_one row (v ∷ w ∷ ws) h = refl

pub not_two : (row : Val → Val → AnswerOrFault Val) (ws : List Val) → (length ws ≡ 2 → ⊥) → of_two row (vals_from ws)
    ≡ Err TypeMismatch
not_two row [] h = refl
not_two row (v ∷ []) h = refl
not_two row (v ∷ w ∷ []) h = absurd (h refl)
not_two row (u ∷ v ∷ w ∷ ws) h = refl

-- other than one value is no list of numbers
pub not_alone : (before : ℤ → ℤ → Bool) (ws : List Val) → (length ws ≡ 1 → ⊥)
    → best_among before (vals_from ws) ≡ best_number before (vals_from ws)
not_alone before [] h = refl
not_alone before (v ∷ []) h = absurd (h refl)
not_alone before (NumberVal n ∷ w ∷ ws) h = refl
not_alone before (TruthVal b ∷ w ∷ ws) h = refl
not_alone before (TextVal bytes ∷ w ∷ ws) h = refl
not_alone before (ListVal items ∷ w ∷ ws) h = refl
not_alone before (RangeVal from step to ∷ w ∷ ws) h = refl
not_alone before (UndefVal ∷ w ∷ ws) h = refl

pub counted : (vs : List Value) (ws : List Val) → vals_in vs ≡ ws → length vs ≡ count_of (vals_from ws)
counted vs ws e = counts vs ∙ ap (λ xs. count_of (vals_from xs)) e
  where
    counts : (vs : List Value) → length vs ≡ count_of (vals_from (vals_in vs))
    counts [] = refl
    counts (v ∷ vs) = ap suc (counts vs)

pub list_from : (vs : List Val) → list_of (vals_from vs) ≡ vs
list_from [] = refl
list_from (v ∷ vs) = ap (λ l. v ∷ l) (list_from vs)

pub joined_push : (vs : List Value) (v : Value) → joined_items (vals_from (vals_in (vs ++ v ∷ [])))
    ≡ joined_items (vals_from (vals_in vs)) ++ items_as (val_of v)
joined_push [] v = append-nil (items_as (val_of v))
joined_push (w ∷ vs) v = ap (λ l. items_as (val_of w) ++ l) (joined_push vs v)
    ∙ sym (append_assoc (items_as (val_of w)) (joined_items (vals_from (vals_in vs))) (items_as (val_of v)))

-- the functions of one value
pub by_row : (builtin : Builtin) (ws : List Val) → (builtin ≡ Min → ⊥) → (builtin ≡ Max → ⊥)
    → (builtin ≡ Concat → ⊥) → (builtin ≡ Pow → ⊥)
    → builtin_value builtin (vals_from ws) ≡ of_one (value_row builtin) (vals_from ws)
by_row Abs ws a b c d = refl
by_row Sign ws a b c d = refl
by_row Floor ws a b c d = refl
by_row Ceil ws a b c d = refl
by_row Round ws a b c d = refl
by_row Min ws a b c d = absurd (a refl)
by_row Max ws a b c d = absurd (b refl)
by_row Len ws a b c d = refl
by_row Concat ws a b c d = absurd (c refl)
by_row Pow ws a b c d = absurd (d refl)
by_row IsUndef ws a b c d = refl
by_row IsNum ws a b c d = refl
by_row IsBool ws a b c d = refl
by_row IsList ws a b c d = refl
