-- A walk from the end of a cache, which leaves out what is free until the rest fits.
use Rattle.std.proofs.Common.{◌≡◌, ℕ, ◌+◌, ◌<◌, ◌≤◌, Bool, true, false, ◌&&◌, ◌||◌, ◌⊎◌, inl, inr, not, List, [], ◌∷◌, ◌++◌, refl, ap, sym, subst, ◌∙◌, cond, length, arith, Some, None, nat_eq, append-nil, option_map}
use Rattle.std.specs.Prelude.{Option, sum_by, nat_le, nat_lt, filter}
use Rattle.std.specs.Option.{option_map_or}
use Rattle.std.specs.List.{AllByRecursion, IsDistinct}
use Rattle.std.specs.Map.{keys_of, remove_entry}
use Rattle.std.proofs.lemmas.List.{length-append, append_assoc}
use Rattle.std.proofs.lemmas.List.Elements.{filter-append}
use Rattle.std.proofs.lemmas.List.Sums.{sum_by-cons, sum_by-append}
use Rattle.std.proofs.lemmas.Bool.Decides.{nat_tests}
use Rattle.std.proofs.lemmas.Cmp.{nat_list_eq_equiv}
use Rattle.memo_core.specs.Memo.{same_name, first_with, without_first, has_name, owner_weight, is_free, fits_in, others_left_beside, entries_after_push, most_entries}
use Rattle.memo_core.specs.Fields.{weight_at}
use Rattle.memo_core.specs.Plans.{pairs_without, AreOthers, slot_header, weight_of_slots, IsPlan, MakesRoom, IsPlanFor, IsWithout, slots_left_by, frees_by}
use Rattle.memo_core.specs.declared.plan.Plan.{Plan}
use Rattle.memo_core.specs.declared.slots.Slot.{Slot}
use Rattle.memo_core.proofs.Ways.{remove_without}
use Rattle.memo_core.proofs.Rooms.{NonePass, map_all, owned_apart, room_drop, room_full, room_none, still_unfree}

pub other_way : (a b : List ℕ) → same_name a b ≡ false → same_name b a ≡ false
other_way a b h = nat_list_eq_equiv.symm b a ∙ h

module _ {X : Type 0} where
  -- a pair that isn't called so
  abbrev pub other_than : List ℕ → List ℕ × X → Bool
  other_than name e = not (same_name name e.0)

  pub removed_more : (ns : List (List ℕ)) (n : List ℕ) (es : List (List ℕ × X)) → pairs_without (ns ++ n ∷ []) es ≡ remove_entry (same_name n) (pairs_without ns es)
  removed_more [] n es = refl
  removed_more (m ∷ ns) n es = removed_more ns n (remove_entry (same_name m) es)

  -- others stay behind a pair in front
  pub removed_behind : (ns : List (List ℕ)) (e : List ℕ × X) (es : List (List ℕ × X)) → AreOthers e.0 ns → pairs_without ns (e ∷ es) ≡ e ∷ pairs_without ns es
  removed_behind [] e es a = refl
  removed_behind (n ∷ ns) e es a = ap (λ b. pairs_without ns (cond b es (e ∷ remove_entry (same_name n) es))) a.0 ∙ removed_behind ns e (remove_entry (same_name n) es) a.1

  keys_behind : (P : List ℕ → Type 0) (xs : List (List ℕ × X)) (e : List ℕ × X) (ys : List (List ℕ × X)) → AllByRecursion P (keys_of (xs ++ e ∷ ys)) → P e.0 × AllByRecursion P (keys_of (xs ++ ys))
  keys_behind P [] e ys a = (a.0, a.1)
  keys_behind P (x ∷ xs) e ys a = let h = keys_behind P xs e ys a.1 in (h.0, (a.0, h.1))

  -- the pair of a name goes, and the names stay distinct
  pub remove_apart : (xs : List (List ℕ × X)) (e : List ℕ × X) (ys : List (List ℕ × X)) → IsDistinct same_name (keys_of (xs ++ e ∷ ys))
      → (remove_entry (same_name e.0) (xs ++ e ∷ ys) ≡ xs ++ ys) × IsDistinct same_name (keys_of (xs ++ ys))
  unfolding IsDistinct
  remove_apart [] e ys d = (ap (λ b. cond b ys (e ∷ remove_entry (same_name e.0) ys)) (nat_list_eq_equiv.refl e.0), d.1)
  remove_apart (x ∷ xs) e ys d =
      let h = remove_apart xs e ys d.1 in
      let k = keys_behind (λ y. same_name x.0 y ≡ false) xs e ys d.0 in (
        ap (λ b. cond b (xs ++ e ∷ ys) (x ∷ remove_entry (same_name e.0) (xs ++ e ∷ ys))) (other_way x.0 e.0 k.0) ∙ ap (λ r. x ∷ r) h.0,
        (k.1, h.1),
      )

  none_removed : (name : List ℕ) (es : List (List ℕ × X)) → AllByRecursion (λ k. same_name name k ≡ false) (keys_of es) → filter (other_than name) es ≡ es
  none_removed name [] a = refl
  none_removed name (e ∷ es) a = ap (λ b. cond (not b) (e ∷ filter (other_than name) es) (filter (other_than name) es)) a.0 ∙ ap (λ r. e ∷ r) (none_removed name es a.1)

  -- with distinct names, the pair of a name is the only one of that name
  pub remove_filter : (name : List ℕ) (es : List (List ℕ × X)) → IsDistinct same_name (keys_of es) → remove_entry (same_name name) es ≡ filter (other_than name) es
  unfolding IsDistinct
  remove_filter name [] d = refl
  remove_filter name (e ∷ es) d = go (same_name name e.0) refl (remove_filter name es d.1) where
    go : (b : Bool) → same_name name e.0 ≡ b → remove_entry (same_name name) es ≡ filter (other_than name) es
        → cond b es (e ∷ remove_entry (same_name name) es) ≡ cond (not b) (e ∷ filter (other_than name) es) (filter (other_than name) es)
    go true i r = sym (none_removed name es (map_all (λ y f. nat_list_eq_equiv.congr name e.0 y i ∙ f) (keys_of es) d.0))
    go false i r = ap (λ x. e ∷ x) r

  pub distinct_filter : (t : List ℕ × X → Bool) (es : List (List ℕ × X)) → IsDistinct same_name (keys_of es) → IsDistinct same_name (keys_of (filter t es))
  unfolding IsDistinct
  distinct_filter t [] d = tt
  distinct_filter t (e ∷ es) d = go (t e) (distinct_filter t es d.1) where
    keys_filter : (P : List ℕ → Type 0) (xs : List (List ℕ × X)) → AllByRecursion P (keys_of xs) → AllByRecursion P (keys_of (filter t xs))
    keys_filter P [] a = tt
    keys_filter P (x ∷ xs) a = step (t x) (keys_filter P xs a.1) where
      step : (b : Bool) → AllByRecursion P (keys_of (filter t xs)) → AllByRecursion P (keys_of (cond b (x ∷ filter t xs) (filter t xs)))
      step true r = (a.0, r)
      step false r = r

    go : (b : Bool) → IsDistinct same_name (keys_of (filter t es)) → IsDistinct same_name (keys_of (cond b (e ∷ filter t es) (filter t es)))
    go true r = (keys_filter (λ y. same_name e.0 y ≡ false) es d.0, r)
    go false r = r

module _ {K V : Type 0} where
  weigh_apart : (xs : List (List ℕ × Slot K V)) (e : List ℕ × Slot K V) (ys : List (List ℕ × Slot K V)) → weight_of_slots (xs ++ e ∷ ys) ≡ e.1.weight + weight_of_slots (xs ++ ys)
  weigh_apart xs e ys =
      let w : List ℕ × Slot K V → ℕ = λ x. (slot_header x).weight in
      let a = sum_by-append w xs (e ∷ ys) in
      let b = sum_by-cons w e ys in
      let c = sum_by-append w xs ys in
      omega (arith, a, b, c)

  module _ (budget share : ℕ) (name : List ℕ) (slot : Slot K V) (es : List (List ℕ × Slot K V)) where
    abbrev pub left : Plan → List (List ℕ × Slot K V)
    left plan = slots_left_by budget share name slot es plan

    -- Some slots are still ahead, and none of those that were passed is free.
    pub record IsWalk (ahead behind : List (List ℕ × Slot K V)) (plan : Plan) : Type 0 where
      pub apart : left plan ≡ filter (other_than name) ahead ++ behind
      pub distinct : IsDistinct same_name (keys_of (left plan))
      pub passed : NonePass (is_free slot_header share slot.owner (left plan)) behind
      pub room : others_left_beside slot_header budget share (name, slot) (left plan) ≡ others_left_beside slot_header budget share (name, slot) (remove_entry (same_name name) es)
      pub plan_is : IsPlan slot.weight (left plan) plan
      pub others : AreOthers name plan.names.items

    pub begun : (plan : Plan) → plan.names.items ≡ [] → IsDistinct same_name (keys_of es) → IsPlan slot.weight (remove_entry (same_name name) es) plan → IsWalk es [] plan
    begun plan n d p =
        let l : left plan ≡ remove_entry (same_name name) es = ap (λ ns. pairs_without ns (remove_entry (same_name name) es)) n in record {
          apart = l ∙ remove_filter name es d ∙ sym (append-nil _);
          distinct = subst (λ x. IsDistinct same_name (keys_of x)) (sym (l ∙ remove_filter name es d)) (distinct_filter (other_than name) es d);
          passed = tt;
          room = ap (others_left_beside slot_header budget share (name, slot)) l;
          plan_is = subst (λ x. IsPlan slot.weight x plan) (sym l) p;
          others = subst (AreOthers name) (sym n) tt;
        }

    -- what the plan's numbers say of fitting
    total_is : (plan : Plan) → IsPlan slot.weight (left plan) plan → sum_by (λ e. (slot_header e).weight) ((name, slot) ∷ left plan) ≡ plan.total
    total_is plan p = sum_by-cons (λ e. (slot_header e).weight) (name, slot) (left plan) ∙ sym p.total

    le_true : (a b : ℕ) → a ≤ b → nat_le a b ≡ true
    le_true a b l = grind (arith, nat_tests)

    le_false : (a b : ℕ) → b < a → nat_le a b ≡ false
    le_false a b l = grind (arith, nat_tests)

    and_false : (b : Bool) → (b && false) ≡ false
    and_false true = refl
    and_false false = refl

    pub fits : (plan : Plan) → IsPlan slot.weight (left plan) plan → plan.total ≤ budget → plan.count ≤ most_entries → fits_in slot_header budget ((name, slot) ∷ left plan) ≡ true
    fits plan p s l =
        ap (λ n. nat_le n budget && nat_le (length ((name, slot) ∷ left plan)) most_entries) (total_is plan p)
        ∙ ap (λ b. b && nat_le (length ((name, slot) ∷ left plan)) most_entries) (le_true plan.total budget s)
        ∙ le_true (length ((name, slot) ∷ left plan)) most_entries (omega (arith, l, p.count))

    pub fits_not : (plan : Plan) → IsPlan slot.weight (left plan) plan → (budget < plan.total) ⊎ (most_entries < plan.count) → fits_in slot_header budget ((name, slot) ∷ left plan) ≡ false
    fits_not plan p (inl h) =
        ap (λ n. nat_le n budget && nat_le (length ((name, slot) ∷ left plan)) most_entries) (total_is plan p)
        ∙ ap (λ b. b && nat_le (length ((name, slot) ∷ left plan)) most_entries) (le_false plan.total budget h)
    fits_not plan p (inr h) =
        ap (λ b. nat_le (sum_by (λ e. (slot_header e).weight) ((name, slot) ∷ left plan)) budget && b) (le_false (length ((name, slot) ∷ left plan)) most_entries (omega (arith, h, p.count)))
        ∙ and_false (nat_le (sum_by (λ e. (slot_header e).weight) ((name, slot) ∷ left plan)) budget)

    -- where all that is left fits, there is room
    pub ended : (ahead behind : List (List ℕ × Slot K V)) (plan : Plan) → IsWalk ahead behind plan → plan.total ≤ budget → plan.count ≤ most_entries → MakesRoom budget share name slot es plan
    ended ahead behind plan w s l = record {
      room = sym w.room ∙ room_full slot_header budget share (name, slot) (length (left plan)) (left plan) (fits plan w.plan_is s l);
      plan_is = w.plan_is;
      within = s;
      few = l;
      others = w.others;
    }

    -- where it doesn't and none is ahead, there is none
    pub exhausted : (behind : List (List ℕ × Slot K V)) (plan : Plan) → IsWalk [] behind plan → (budget < plan.total) ⊎ (most_entries < plan.count)
        → others_left_beside slot_header budget share (name, slot) (remove_entry (same_name name) es) ≡ None
    exhausted behind plan w h =
        sym w.room ∙ room_none slot_header budget share (name, slot) (length (left plan)) (left plan) (fits_not plan w.plan_is h)
        (subst (λ x. NonePass (is_free slot_header share slot.owner (left plan)) x) (sym w.apart) w.passed)

    module _ (ahead behind : List (List ℕ × Slot K V)) (e : List ℕ × Slot K V) (plan : Plan) (w : IsWalk (ahead ++ e ∷ []) behind plan) where
      one_less : (b : Bool) → same_name name e.0 ≡ b → left plan ≡ (filter (other_than name) ahead ++ cond (not b) (e ∷ []) []) ++ behind
      one_less b i =
          w.apart ∙ ap (λ r. r ++ behind) (filter-append (other_than name) ahead (e ∷ []))
          ∙ ap (λ c. (filter (other_than name) ahead ++ cond (not c) (e ∷ []) []) ++ behind) i

      -- one of another name is left so far
      pub here : same_name name e.0 ≡ false → left plan ≡ filter (other_than name) ahead ++ e ∷ behind
      here i = one_less false i ∙ append_assoc (filter (other_than name) ahead) (e ∷ []) behind

      nat_refl : (n : ℕ) → nat_eq n n ≡ true
      nat_refl n = grind (arith, nat_tests)

      pub counted : same_name name e.0 ≡ false → (e.1.weight ≤ plan.total) × (0 < plan.count) × (e.1.weight ≤ weight_at e.1.owner plan.owners.items)
      counted i =
          let a = ap weight_of_slots (here i) ∙ weigh_apart (filter (other_than name) ahead) e behind in
          let n = ap length (here i) in
          let o = w.plan_is.owned_weights e.1.owner ∙ ap (owner_weight slot_header e.1.owner) (here i) ∙ owned_apart slot_header e.1.owner (filter (other_than name) ahead) e behind ∙ ap (λ b. cond b e.1.weight 0 + owner_weight slot_header e.1.owner (filter (other_than name) ahead ++ behind)) (nat_refl e.1.owner) in
          (omega (arith, a, w.plan_is.total), omega (arith, w.plan_is.count), omega (arith, o))

      -- that of the new one's name went before
      pub skipped : same_name name e.0 ≡ true → IsWalk ahead behind plan
      skipped i = record {
        apart = one_less true i ∙ ap (λ r. r ++ behind) (append-nil (filter (other_than name) ahead));
        distinct = w.distinct;
        passed = w.passed;
        room = w.room;
        plan_is = w.plan_is;
        others = w.others;
      }

      -- one that isn't free stays
      pub stayed : same_name name e.0 ≡ false → is_free slot_header share slot.owner (left plan) e ≡ false → IsWalk ahead (e ∷ behind) plan
      stayed i f = record {
        apart = here i;
        distinct = w.distinct;
        passed = (f, w.passed);
        room = w.room;
        plan_is = w.plan_is;
        others = w.others;
      }

      -- one that is free goes
      pub gone : same_name name e.0 ≡ false → is_free slot_header share slot.owner (left plan) e ≡ true → (budget < plan.total) ⊎ (most_entries < plan.count)
          → (plan' : Plan) → IsWithout e.0 e.1.owner e.1.weight plan plan' → IsWalk ahead behind plan'
      gone i f h plan' g =
          let xs = filter (other_than name) ahead in
          let d = remove_apart xs e behind (subst (λ x. IsDistinct same_name (keys_of x)) (here i) w.distinct) in
          let l : left plan' ≡ xs ++ behind =
          ap (λ ns. pairs_without ns (remove_entry (same_name name) es)) g.names ∙ removed_more plan.names.items e.0 (remove_entry (same_name name) es) ∙ ap (remove_entry (same_name e.0)) (here i) ∙ d.0 in
          let less : (o : ℕ) → owner_weight slot_header o (left plan) ≡ cond (nat_eq e.1.owner o) e.1.weight 0 + owner_weight slot_header o (left plan') =
          λ o. ap (owner_weight slot_header o) (here i) ∙ owned_apart slot_header o xs e behind ∙ ap (λ x. cond (nat_eq e.1.owner o) e.1.weight 0 + owner_weight slot_header o x) (sym l) in
          let weighs : weight_of_slots (left plan) ≡ e.1.weight + weight_of_slots (left plan') =
          ap weight_of_slots (here i) ∙ weigh_apart xs e behind ∙ ap (λ x. e.1.weight + weight_of_slots x) (sym l) in
          let longer : length (left plan) ≡ 1 + length (left plan') = ap length (here i) ∙ omega (arith, length-append xs (e ∷ behind), length-append xs behind, ap length l) in record {
            apart = l;
            distinct = subst (λ x. IsDistinct same_name (keys_of x)) (sym l) d.1;
            passed = map_all (λ x k. still_unfree slot_header share slot.owner (left plan) (left plan') x (λ o. omega (arith, less o)) k) behind w.passed;
            room =
                ap (others_left_beside slot_header budget share (name, slot)) l
                ∙ sym (room_drop slot_header budget share (name, slot) xs e behind (subst (λ x. fits_in slot_header budget ((name, slot) ∷ x) ≡ false) (here i) (fits_not plan w.plan_is h)) (subst (λ x. is_free slot_header share slot.owner x e ≡ true) (here i) f)
                (subst (λ x. NonePass (is_free slot_header share slot.owner x) behind) (here i) w.passed))
                ∙ ap (others_left_beside slot_header budget share (name, slot)) (sym (here i)) ∙ w.room;
            plan_is = record {
              total = omega (arith, g.total, w.plan_is.total, weighs);
              count = omega (arith, g.count, w.plan_is.count, longer);
              owned_weights = λ o. let a = g.owned o in let b = w.plan_is.owned_weights o in omega (arith, a, b, less o);
            };
            others = subst (AreOthers name) (sym g.names) (more plan.names.items w.others);
          } where
            more : (ns : List (List ℕ)) → AreOthers name ns → AreOthers name (ns ++ e.0 ∷ [])
            more [] a = (other_way name e.0 i, tt)
            more (n ∷ ns) a = (a.0, more ns a.1)

    frees_is : (e : List ℕ × Slot K V) (plan : Plan) → IsPlan slot.weight (left plan) plan → frees_by slot.owner share e.1.owner plan ≡ is_free slot_header share slot.owner (left plan) e
    frees_is e plan p = ap (λ n. nat_eq e.1.owner slot.owner || (nat_eq share 0 || nat_lt share n)) (p.owned_weights e.1.owner)

    -- one slot further
    pub walked : (rest ahead behind : List (List ℕ × Slot K V)) (e : List ℕ × Slot K V) (plan plan' : Plan) → IsWalk rest behind plan → rest ≡ ahead ++ e ∷ [] → (budget < plan.total) ⊎ (most_entries < plan.count)
        → (same_name name e.0 ≡ false → frees_by slot.owner share e.1.owner plan ≡ true → IsWithout e.0 e.1.owner e.1.weight plan plan')
        → (same_name name e.0 ≡ false → frees_by slot.owner share e.1.owner plan ≡ false → plan' ≡ plan)
        → (same_name name e.0 ≡ true → plan' ≡ plan)
        → (behind' : List (List ℕ × Slot K V)) × IsWalk ahead behind' plan'
    walked rest ahead behind e plan plan' walk r h goes stays skips =
        let w : IsWalk (ahead ++ e ∷ []) behind plan = subst (λ x. IsWalk x behind plan) r walk in
        go w (same_name name e.0) refl (frees_by slot.owner share e.1.owner plan) refl where
          go : IsWalk (ahead ++ e ∷ []) behind plan → (b : Bool) → same_name name e.0 ≡ b → (c : Bool) → frees_by slot.owner share e.1.owner plan ≡ c → (behind' : List (List ℕ × Slot K V)) × IsWalk ahead behind' plan'
          go w true i c j = (behind, subst (λ p. IsWalk ahead behind p) (sym (skips i)) (skipped ahead behind e plan w i))
          go w false i true j = (behind, gone ahead behind e plan w i (sym (frees_is e plan w.plan_is) ∙ j) h plan' (goes i j))
          go w false i false j = (e ∷ behind, subst (λ p. IsWalk ahead (e ∷ behind) p) (sym (stays i j)) (stayed ahead behind e plan w i (sym (frees_is e plan w.plan_is) ∙ j)))

    pub walk_counted : (rest ahead behind : List (List ℕ × Slot K V)) (e : List ℕ × Slot K V) (plan : Plan) → IsWalk rest behind plan → rest ≡ ahead ++ e ∷ [] → same_name name e.0 ≡ false
        → (e.1.weight ≤ plan.total) × (0 < plan.count) × (e.1.weight ≤ weight_at e.1.owner plan.owners.items)
    walk_counted rest ahead behind e plan walk r i = counted ahead behind e plan (subst (λ x. IsWalk x behind plan) r walk) i

    owned_within : (o : ℕ) (xs : List (List ℕ × Slot K V)) → owner_weight slot_header o xs ≤ weight_of_slots xs
    owned_within o [] = omega arith
    owned_within o (x ∷ xs) =
        let a = sum_by-cons (λ e. cond (nat_eq (slot_header e).owner o) (slot_header e).weight 0) x xs in
        let b = sum_by-cons (λ e. (slot_header e).weight) x xs in
        let c = least (nat_eq x.1.owner o) in
        omega (arith, a, b, c, owned_within o xs) where
          least : (t : Bool) → cond t x.1.weight 0 ≤ x.1.weight
          least true = omega arith
          least false = omega arith

    -- the caller's weight has room for the new one
    pub room_owned : (plan : Plan) → MakesRoom budget share name slot es plan → weight_at slot.owner plan.owners.items + slot.weight ≤ budget
    room_owned plan r =
        let o = r.plan_is.owned_weights slot.owner in
        omega (arith, o, owned_within slot.owner (left plan), r.plan_is.total, r.within)

    abbrev stands : Option (List ℕ × Slot K V) → Bool
    stands o = option_map_or (λ e. not (is_free slot_header share slot.owner es e)) o false

    abbrev pub first_named : Option (List ℕ × Slot K V)
    first_named = first_with (has_name slot_header name) es

    flip : (b : Bool) → not b ≡ true → b ≡ false
    flip true h = sym h
    flip false h = refl

    flop : (b : Bool) → not b ≡ false → b ≡ true
    flop true h = refl
    flop false h = sym h

    pub planned : (plan plan' : Plan) → MakesRoom budget share name slot es plan → not (stands first_named) ≡ true → plan'.names ≡ plan.names → plan'.total ≡ plan.total → plan'.count ≡ plan.count
        → ((o : ℕ) → weight_at o plan'.owners.items ≡ weight_at o plan.owners.items + cond (nat_eq slot.owner o) slot.weight 0)
        → IsPlanFor budget share name slot es plan'
    planned plan plan' r way n t c o =
        let l : left plan' ≡ left plan = ap (λ ns. pairs_without ns.items (remove_entry (same_name name) es)) n in record {
          pushes =
              ap (λ b. cond b None (option_map (λ rest. (name, slot) ∷ rest) (others_left_beside slot_header budget share (name, slot) (without_first (has_name slot_header name) es)))) (flip (stands first_named) way)
              ∙ ap (λ x. option_map (λ rest. (name, slot) ∷ rest) (others_left_beside slot_header budget share (name, slot) x)) (sym (remove_without (same_name name) es))
              ∙ ap (option_map (λ rest. (name, slot) ∷ rest)) r.room ∙ ap (λ x. Some ((name, slot) ∷ x)) (sym l);
          weighs = t ∙ sym (total_is plan r.plan_is) ∙ ap (λ x. weight_of_slots ((name, slot) ∷ x)) (sym l);
          within = omega (arith, t, r.within);
          few = let m = ap length l in omega (arith, m, r.few, r.plan_is.count);
          owned_weights = λ k.
              let a = o k in
              let b = r.plan_is.owned_weights k in
              let d = sum_by-cons (λ e. cond (nat_eq (slot_header e).owner k) (slot_header e).weight 0) (name, slot) (left plan') in
              let f = ap (owner_weight slot_header k) l in
              omega (arith, a, b, d, f);
          others = subst (λ ns. AreOthers name ns.items) (sym n) r.others;
        }

    pub no_way : not (stands first_named) ≡ false → entries_after_push slot_header budget share (name, slot) es ≡ None
    no_way h = ap (λ b. cond b None (option_map (λ rest. (name, slot) ∷ rest) (others_left_beside slot_header budget share (name, slot) (without_first (has_name slot_header name) es)))) (flop (stands first_named) h)

    pub no_room : not (stands first_named) ≡ true → others_left_beside slot_header budget share (name, slot) (remove_entry (same_name name) es) ≡ None → entries_after_push slot_header budget share (name, slot) es ≡ None
    no_room way h =
        ap (λ b. cond b None (option_map (λ rest. (name, slot) ∷ rest) (others_left_beside slot_header budget share (name, slot) (without_first (has_name slot_header name) es)))) (flip (stands first_named) way)
        ∙ ap (λ x. option_map (λ rest. (name, slot) ∷ rest) (others_left_beside slot_header budget share (name, slot) x)) (sym (remove_without (same_name name) es))
        ∙ ap (option_map (λ rest. (name, slot) ∷ rest)) h
