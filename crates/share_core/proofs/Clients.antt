-- The clients' parts, and one event on them.
use Rattle.std.proofs.Common.{◌≡◌, ◌≢◌, ℕ, zero, suc, ◌+◌, Bool, false, List, [], ◌∷◌, refl, ap, sym, subst, ◌∙◌, arith, Some, replicate, set}
use Rattle.std.specs.Prelude.{slice_get}
use Rattle.std.specs.Option.{option_map_or}
use Rattle.std.proofs.lemmas.Option.{none-some, same_Some}
use Rattle.memo_core.specs.Views.{MemoView}
use Rattle.share_core.specs.Views.{ClientProgress, ClientTasks, Machine}
use Rattle.share_core.specs.Fields.{IsSoundPart, AreSoundParts, no_client_part}
use Rattle.share_core.specs.Steps.{TellsIfTaken, StepsMachine, Changes, is_possible, can_do}
use Rattle.share_core.specs.declared.event.Event.{Event}
use Rattle.share_core.specs.declared.event.Stepped.{Stepped}
use Rattle.share_core.specs.declared.event.Stepped.TheVariants.{Taken, NotReady}

module _ {A : Type 0} where
  -- what stands at a place, put there again
  pub set_same : (xs : List A) (i : ℕ) (x : A) → slice_get xs i ≡ Some x → set xs i x ≡ xs
  set_same [] i x e = refl
  set_same (y ∷ ys) zero x e = ap (λ z. z ∷ ys) (sym (same_Some _ _ e))
  set_same (y ∷ ys) (suc i) x e = ap (λ zs. y ∷ zs) (set_same ys i x e)

  -- the other places stay
  pub get_set_other : (xs : List A) (i : ℕ) (x : A) (j : ℕ) → j ≢ i → slice_get (set xs i x) j ≡ slice_get xs j
  get_set_other [] i x j ne = refl
  get_set_other (y ∷ ys) zero x zero ne = absurd (ne refl)
  get_set_other (y ∷ ys) zero x (suc j) ne = refl
  get_set_other (y ∷ ys) (suc i) x zero ne = refl
  get_set_other (y ∷ ys) (suc i) x (suc j) ne = get_set_other ys i x j (λ e. ne (ap suc e))

  -- and the place has what was put there
  pub get_set_same : (xs : List A) (i : ℕ) (x y : A) → slice_get xs i ≡ Some y → slice_get (set xs i x) i ≡ Some x
  get_set_same [] i x y e = absurd (none-some _ e)
  get_set_same (z ∷ zs) zero x y e = refl
  get_set_same (z ∷ zs) (suc i) x y e = get_set_same zs i x y e

module _ {K V R : Type 0} (fits : K → V → Type 0) (weighs : V → ℕ) (tasks : ClientTasks K V R) where
  moved : (n m : ℕ) (p : ClientProgress V R) → n ≡ m → IsSoundPart fits weighs tasks n p → IsSoundPart fits weighs tasks m p
  moved n m p e s = subst (λ k. IsSoundPart fits weighs tasks k p) e s

  sound_from : (n i : ℕ) (ps : List (ClientProgress V R)) (p : ClientProgress V R) → AreSoundParts fits weighs tasks n ps → slice_get ps i ≡ Some p → IsSoundPart fits weighs tasks (n + i) p
  sound_from n i [] p s e = absurd (none-some _ e)
  sound_from n zero (q ∷ qs) p s e = let k : n ≡ n + zero = omega arith in moved n (n + zero) p k (subst (IsSoundPart fits weighs tasks n) (same_Some _ _ e) s.0)
  sound_from n (suc i) (q ∷ qs) p s e = let k : n + 1 + i ≡ n + suc i = omega arith in moved (n + 1 + i) (n + suc i) p k (sound_from (n + 1) i qs p s.1 e)

  -- a client's part is sound
  pub part_sound : (i : ℕ) (ps : List (ClientProgress V R)) (p : ClientProgress V R) → AreSoundParts fits weighs tasks 0 ps → slice_get ps i ≡ Some p → IsSoundPart fits weighs tasks i p
  part_sound i ps p s e = let k : 0 + i ≡ i = omega arith in moved (0 + i) i p k (sound_from 0 i ps p s e)

  set_from : (n i : ℕ) (ps : List (ClientProgress V R)) (p : ClientProgress V R) → AreSoundParts fits weighs tasks n ps → IsSoundPart fits weighs tasks (n + i) p → AreSoundParts fits weighs tasks n (set ps i p)
  set_from n i [] p s h = tt
  set_from n zero (q ∷ qs) p s h = let k : n + zero ≡ n = omega arith in (moved (n + zero) n p k h, s.1)
  set_from n (suc i) (q ∷ qs) p s h = let k : n + suc i ≡ n + 1 + i = omega arith in (s.0, set_from (n + 1) i qs p s.1 (moved (n + suc i) (n + 1 + i) p k h))

  -- with a sound part at a place, they stay sound
  pub parts_set : (i : ℕ) (ps : List (ClientProgress V R)) (p : ClientProgress V R) → AreSoundParts fits weighs tasks 0 ps → IsSoundPart fits weighs tasks i p → AreSoundParts fits weighs tasks 0 (set ps i p)
  parts_set i ps p s h = let k : i ≡ 0 + i = omega arith in set_from 0 i ps p s (moved i (0 + i) p k h)

  -- clients that have not begun are sound
  pub nobodies_sound : (n k : ℕ) → AreSoundParts fits weighs tasks k (replicate n no_client_part)
  nobodies_sound zero k = tt
  nobodies_sound (suc n) k = (record { answered = tt; within = omega arith; command = tt; count = tt; sound = tt }, nobodies_sound n (k + 1))

module _ {K V R : Type 0} where
  machine_is : (m n : MemoView K V) (ps qs : List (ClientProgress V R)) → m ≡ n → ps ≡ qs → ◌≡◌ {A = Machine K V R} (record { memo = m; parts = ps }) (record { memo = n; parts = qs })
  machine_is m n ps qs p q = ap (λ (x : MemoView K V). record { memo = x; parts = ps }) p ∙ ap (λ (x : List (ClientProgress V R)). record { memo = n; parts = x }) q

  -- where a client's part and the memo stay, the machine stays
  pub machine_stays : (m n : MemoView K V) (ps : List (ClientProgress V R)) (i : ℕ) (p q : ClientProgress V R) → slice_get ps i ≡ Some p → n ≡ m → q ≡ p → ◌≡◌ {A = Machine K V R} (record { memo = n; parts = set ps i q }) (record { memo = m; parts = ps })
  machine_stays m n ps i p q at e f = machine_is n m (set ps i q) ps e (ap (set ps i) f ∙ set_same ps i p at)

  -- what a client's act answers is what the event does to the machine
  pub lifted : (same : K → K → Bool) (name_of : K → List ℕ) (fits : K → V → Type 0) (weighs : V → ℕ) (tasks : ClientTasks K V R) (event : Event) (m n : MemoView K V) (ps : List (ClientProgress V R)) (p q : ClientProgress V R) (s : Stepped)
      → slice_get ps event.client ≡ Some p
      → TellsIfTaken (can_do tasks event.client event.act p) (Changes same name_of fits weighs tasks event.client event.act m p n q) ((n ≡ m) × (q ≡ p)) s
      → TellsIfTaken (is_possible tasks (record { memo = m; parts = ps }) event) (StepsMachine same name_of fits weighs tasks (record { memo = m; parts = ps }) event (record { memo = n; parts = set ps event.client q })) (◌≡◌ {A = Machine K V R} (record { memo = n; parts = set ps event.client q }) (record { memo = m; parts = ps })) s
  lifted same name_of fits weighs tasks event m n ps p q Taken at a = (ap (λ o. option_map_or (can_do tasks event.client event.act) o false) at ∙ a.0, (p, q, at, a.1, refl))
  lifted same name_of fits weighs tasks event m n ps p q NotReady at a = (ap (λ o. option_map_or (can_do tasks event.client event.act) o false) at ∙ a.0, machine_stays m n ps event.client p q at a.1.0 a.1.1)
