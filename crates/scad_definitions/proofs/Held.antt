-- Lists in memory with one item changed.
use Rattle.std.proofs.Common.{◌≡◌, ℕ, zero, suc, ◌<◌, List, [], ◌∷◌, ◌++◌, length, map, get_or, set, Bool, true, false, cond, Option, Some, None, refl, sym, ap, subst, ◌∙◌, arith}
use Rattle.std.proofs.lemmas.List.{map-set}
use Rattle.scad_definitions.specs.Newest.{one_further}
use Rattle.scad_definitions.specs.Blocks.{SourceAssignment, same_assigned_name, place_of_assignment, with_assigned, SourceBlock, nothing_there}
use Rattle.scad_definitions.specs.declared.text.Entry.{Entry}
use Rattle.scad_definitions.specs.declared.text.LocalDefinitions.{LocalDefinitions}
use Rattle.scad_definitions.specs.declared.text.Assignment.{Assignment}
use Rattle.scad_definitions.specs.TextView.{block_of_entry, locals_of, source_assignment_of}
use Rattle.scad_definitions.specs.Walk.{block_with_end}

pub mapped_length : {A B : Type 0} (f : A → B) (xs : List A) → length (map f xs) ≡ length xs
mapped_length f [] = refl
mapped_length f (x ∷ xs) = ap suc (mapped_length f xs)

pub at_mapped : {A B : Type 0} (f : A → B) (xs : List A) (k : ℕ) (x : A) (d : B) → k < length xs → x ≡ get_or xs k x → get_or (map f xs) k d ≡ f x
at_mapped f [] k x d h e = absurd (omega arith)
at_mapped f (y ∷ ys) zero x d h e = ap f (sym e)
at_mapped f (y ∷ ys) (suc k) x d h e = at_mapped f ys k x d (omega arith) e

pub entry_set : (es : List Entry) (k : ℕ) (x : Entry) (local : LocalDefinitions) (b : ℕ) → k < length es → x ≡ get_or es k x → b ≡ length es
    → map block_of_entry (set es k (record { text = x.text; local = local; block_end = b }))
    ≡ set (map block_of_entry es) k (block_with_end (get_or (map block_of_entry es) k nothing_there) (locals_of local) (length (map block_of_entry es)))
entry_set es k x local b h e n =
    map-set block_of_entry es k (record { text = x.text; local = local; block_end = b })
    ∙ ap (λ m. set (map block_of_entry es) k (block_with_end (block_of_entry x) (locals_of local) m)) (n ∙ sym (mapped_length block_of_entry es))
    ∙ ap (λ (y : SourceBlock). set (map block_of_entry es) k (block_with_end y (locals_of local) (length (map block_of_entry es))))
    (sym (at_mapped block_of_entry es k x nothing_there h e))

-- an entry in whose place one stands that means the same
pub entry_alike : (es : List Entry) (k : ℕ) (x y : Entry) → k < length es → x ≡ get_or es k x → block_of_entry y ≡ block_of_entry x
    → map block_of_entry (set es k y) ≡ map block_of_entry es
entry_alike [] k x y h e f = refl
entry_alike (z ∷ es) zero x y h e f = ap (λ (s : SourceBlock). s ∷ map block_of_entry es) (f ∙ ap block_of_entry e)
entry_alike (z ∷ es) (suc k) x y h e f = ap (λ (l : List SourceBlock). block_of_entry z ∷ l) (entry_alike es k x y (omega arith) e f)

none_some : (i : ℕ) (o : Option ℕ) → o ≡ None → o ≡ Some i → ⊥
none_some i o f g = cc

module _ (a : SourceAssignment) where
  -- the same with the expression of `a`
  changed : SourceAssignment → SourceAssignment
  changed b = record b { value = a.value }

  with_first : (b : SourceAssignment) (bs : List SourceAssignment) (i : ℕ) (t : Bool) (o : Option ℕ)
      → ((k : ℕ) → o ≡ Some k → with_assigned bs a ≡ set bs k (changed (get_or bs k a)))
      → cond t (Some zero) (one_further o) ≡ Some i
      → cond t (changed b ∷ bs) (b ∷ with_assigned bs a) ≡ set (b ∷ bs) i (changed (get_or (b ∷ bs) i a))
  with_first b bs i true o rest e =
      let z : zero ≡ i = cc in
      subst (λ n. changed b ∷ bs ≡ set (b ∷ bs) n (changed (get_or (b ∷ bs) n a))) z refl
  with_first b bs i false (Some k) rest e =
      let z : suc k ≡ i = cc in
      subst (λ n. b ∷ with_assigned bs a ≡ set (b ∷ bs) n (changed (get_or (b ∷ bs) n a))) z (ap (λ l. b ∷ l) (rest k refl))
  with_first b bs i false None rest e = absurd (none_some i None refl e)

  assigned_there : (bs : List SourceAssignment) (i : ℕ) → place_of_assignment bs a ≡ Some i → with_assigned bs a ≡ set bs i (changed (get_or bs i a))
  unfolding changed
  assigned_there [] i e = absurd (none_some i None refl e)
  assigned_there (b ∷ bs) i e = with_first b bs i (same_assigned_name b a) (place_of_assignment bs a) (assigned_there bs) e

  behind_first : (b : SourceAssignment) (bs : List SourceAssignment) (t : Bool) (o : Option ℕ)
      → (o ≡ None → with_assigned bs a ≡ bs ++ a ∷ [])
      → cond t (Some zero) (one_further o) ≡ None → cond t (changed b ∷ bs) (b ∷ with_assigned bs a) ≡ (b ∷ bs) ++ a ∷ []
  behind_first b bs true o rest e = absurd (none_some zero (Some zero) e refl)
  behind_first b bs false (Some k) rest e = absurd (none_some (suc k) (Some (suc k)) e refl)
  behind_first b bs false None rest e = ap (λ l. b ∷ l) (rest refl)

  assigned_new : (bs : List SourceAssignment) → place_of_assignment bs a ≡ None → with_assigned bs a ≡ bs ++ a ∷ []
  unfolding changed
  assigned_new [] e = refl
  assigned_new (b ∷ bs) e = behind_first b bs (same_assigned_name b a) (place_of_assignment bs a) (assigned_new bs) e

pub assigned_set : (bs : List Assignment) (i : ℕ) (x a : Assignment) → i < length bs → x ≡ get_or bs i x
    → Some i ≡ place_of_assignment (map source_assignment_of bs) (source_assignment_of a)
    → map source_assignment_of (set bs i (record { place = x.place; special = x.special; name = x.name; value = a.value }))
    ≡ with_assigned (map source_assignment_of bs) (source_assignment_of a)
unfolding changed
assigned_set bs i x a h e f =
    map-set source_assignment_of bs i (record { place = x.place; special = x.special; name = x.name; value = a.value })
    ∙ ap (λ (y : SourceAssignment). set (map source_assignment_of bs) i (changed (source_assignment_of a) y)) (sym (at_mapped source_assignment_of bs i x (source_assignment_of a) h e))
    ∙ sym (assigned_there (source_assignment_of a) (map source_assignment_of bs) i (sym f))

pub assigned_pushed : (bs cs : List Assignment) (a : Assignment) → cs ≡ bs ++ a ∷ [] → None ≡ place_of_assignment (map source_assignment_of bs) (source_assignment_of a)
    → map source_assignment_of cs ≡ with_assigned (map source_assignment_of bs) (source_assignment_of a)
assigned_pushed bs cs a e f = ap (map source_assignment_of) e ∙ mapped bs ∙ sym (assigned_new (source_assignment_of a) (map source_assignment_of bs) (sym f))
  where
    mapped : (bs : List Assignment) → map source_assignment_of (bs ++ a ∷ []) ≡ map source_assignment_of bs ++ source_assignment_of a ∷ []
    mapped [] = refl
    mapped (b ∷ bs) = ap (λ l. source_assignment_of b ∷ l) (mapped bs)
