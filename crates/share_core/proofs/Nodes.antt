-- What the nodes of a sound part keep.
use Rattle.std.proofs.Common.{◌≡◌, ℕ, zero, suc, ◌+◌, ◌<◌, Bool, true, false, cond, ◌&&◌, List, [], ◌∷◌, length, refl, ap, sym, subst, ◌∙◌, arith, Some, None, replicate, set}
use Rattle.std.specs.Prelude.{Option, slice_get}
use Rattle.std.proofs.lemmas.Option.{none-some, same_Some, slice_get_within}
use Rattle.std.specs.Option.{option_map_or}
use Rattle.share_core.specs.Views.{NodeProgress, Unasked, Missed, Built, There, ClientTasks, HaveFits, AllThere, MoreThere}
use Rattle.share_core.specs.Fields.{value_of, values_of, IsSoundNode, AreSoundNodes}
use Rattle.share_core.specs.Steps.{all_there, is_at, is_missed, is_unasked}

pub never : false ≡ true → ⊥
never p = subst (λ (b : Bool). cond b ⊥ (Unit {0})) p tt

pub both : (a b : Bool) → (a && b) ≡ true → (a ≡ true) × (b ≡ true)
both true b h = (refl, h)
both false b h = absurd (never h)

module _ {V : Type 0} where
  -- where all nodes are there, all values are
  pub there_all : (xs : List (NodeProgress V)) → all_there xs ≡ true → AllThere (values_of xs)
  there_all [] h = tt
  there_all (Unasked ∷ xs) h = absurd (never h)
  there_all (Missed ∷ xs) h = absurd (never h)
  there_all (Built v w ∷ xs) h = absurd (never h)
  there_all (There v ∷ xs) h = there_all xs h

  -- values that stay are there
  pub more_same : (vs : List (Option V)) → MoreThere vs vs
  more_same [] = tt
  more_same (None ∷ vs) = more_same vs
  more_same (Some v ∷ vs) = (refl, more_same vs)

  -- another state at a node that was not there keeps the values
  pub more_set : (xs : List (NodeProgress V)) (n : ℕ) (y x : NodeProgress V) → slice_get xs n ≡ Some y → value_of y ≡ None → MoreThere (values_of xs) (values_of (set xs n x))
  more_set [] n y x e h = tt
  more_set (z ∷ zs) zero y x e h = go (value_of z) (ap value_of (same_Some _ _ e) ∙ h) where
    go : (o : Option V) → o ≡ None → MoreThere (o ∷ values_of zs) (value_of x ∷ values_of zs)
    go None p = more_same (values_of zs)
    go (Some v) p = absurd (none-some _ (sym p))
  more_set (z ∷ zs) (suc n) y x e h = go (value_of z) (more_set zs n y x e h) where
    go : (o : Option V) → MoreThere (values_of zs) (values_of (set zs n x)) → MoreThere (o ∷ values_of zs) (o ∷ values_of (set zs n x))
    go None m = m
    go (Some v) m = (refl, m)

  -- a node that is missed stands at its place
  pub missed_at : (xs : List (NodeProgress V)) (n : ℕ) → is_at is_missed xs n ≡ true → slice_get xs n ≡ Some Missed
  missed_at xs n = go (slice_get xs n) where
    go : (o : Option (NodeProgress V)) → option_map_or is_missed o false ≡ true → o ≡ Some Missed
    go None h = absurd (never h)
    go (Some Unasked) h = absurd (never h)
    go (Some Missed) h = refl
    go (Some (Built v w)) h = absurd (never h)
    go (Some (There v)) h = absurd (never h)

  -- a node that is not probed stands at its place
  pub unasked_at : (xs : List (NodeProgress V)) (n : ℕ) → is_at is_unasked xs n ≡ true → slice_get xs n ≡ Some Unasked
  unasked_at xs n = go (slice_get xs n) where
    go : (o : Option (NodeProgress V)) → option_map_or is_unasked o false ≡ true → o ≡ Some Unasked
    go None h = absurd (never h)
    go (Some Unasked) h = refl
    go (Some Missed) h = absurd (never h)
    go (Some (Built v w)) h = absurd (never h)
    go (Some (There v)) h = absurd (never h)

  -- a place with a node is within the list
  pub passes_within : (test : NodeProgress V → Bool) (xs : List (NodeProgress V)) (n : ℕ) → is_at test xs n ≡ true → n < length xs
  passes_within test xs n h = go (slice_get xs n) refl h where
    go : (o : Option (NodeProgress V)) → slice_get xs n ≡ o → option_map_or test o false ≡ true → n < length xs
    go None e h = absurd (never h)
    go (Some x) e h = slice_get_within xs n x e

module _ {K V R : Type 0} (fits : K → V → Type 0) (weighs : V → ℕ) (tasks : ClientTasks K V R) (client : ℕ) where
  -- the values that are there fit
  pub have_fits : (command : ℕ) (values : List (Option V)) (n : ℕ) (xs : List (NodeProgress V)) → AreSoundNodes fits weighs tasks client command values n xs → HaveFits fits (tasks.key client command) n (values_of xs)
  have_fits command values n [] s = tt
  have_fits command values n (Unasked ∷ xs) s = have_fits command values (n + 1) xs s.1
  have_fits command values n (Missed ∷ xs) s = have_fits command values (n + 1) xs s.1
  have_fits command values n (Built v w ∷ xs) s = have_fits command values (n + 1) xs s.1
  have_fits command values n (There v ∷ xs) s = (s.0, have_fits command values (n + 1) xs s.1)

  further : (command : ℕ) (values : List (Option V)) (n i : ℕ) (x : NodeProgress V) → IsSoundNode fits weighs tasks client command values (n + 1 + i) x → IsSoundNode fits weighs tasks client command values (n + suc i) x
  further command values n i x s = let e : n + 1 + i ≡ n + suc i = omega arith in subst (λ k. IsSoundNode fits weighs tasks client command values k x) e s

  sound_from : (command : ℕ) (values : List (Option V)) (n i : ℕ) (xs : List (NodeProgress V)) (x : NodeProgress V) → AreSoundNodes fits weighs tasks client command values n xs → slice_get xs i ≡ Some x → IsSoundNode fits weighs tasks client command values (n + i) x
  sound_from command values n i [] x s e = absurd (none-some _ e)
  sound_from command values n zero (y ∷ ys) x s e =
      let k : n ≡ n + zero = omega arith in
      subst (λ m. IsSoundNode fits weighs tasks client command values m x) k (subst (λ z. IsSoundNode fits weighs tasks client command values n z) (same_Some _ _ e) s.0)
  sound_from command values n (suc i) (y ∷ ys) x s e = further command values n i x (sound_from command values (n + 1) i ys x s.1 e)

  -- a node of sound ones is sound
  pub sound_at : (command : ℕ) (values : List (Option V)) (i : ℕ) (xs : List (NodeProgress V)) (x : NodeProgress V) → AreSoundNodes fits weighs tasks client command values 0 xs → slice_get xs i ≡ Some x → IsSoundNode fits weighs tasks client command values i x
  sound_at command values i xs x s e =
      let k : 0 + i ≡ i = omega arith in
      subst (λ m. IsSoundNode fits weighs tasks client command values m x) k (sound_from command values 0 i xs x s e)

  -- nodes that are not probed are sound
  pub unasked_sound : (command : ℕ) (values : List (Option V)) (n k : ℕ) → AreSoundNodes fits weighs tasks client command values k (replicate n Unasked)
  unasked_sound command values zero k = tt
  unasked_sound command values (suc n) k = (tt, unasked_sound command values n (k + 1))

  module _ (stays : (command node : ℕ) (old new : List (Option V)) → MoreThere old new → tasks.ready client command node old ≡ true → tasks.ready client command node new ≡ true) where
    -- as more values are there, a node stays sound
    pub node_stays : (command : ℕ) (old new : List (Option V)) (n : ℕ) (x : NodeProgress V) → MoreThere old new → IsSoundNode fits weighs tasks client command old n x → IsSoundNode fits weighs tasks client command new n x
    node_stays command old new n Unasked m s = tt
    node_stays command old new n Missed m s = stays command n old new m s
    node_stays command old new n (Built v w) m s = s
    node_stays command old new n (There v) m s = s

    pub nodes_stay : (command : ℕ) (old new : List (Option V)) (n : ℕ) (xs : List (NodeProgress V)) → MoreThere old new → AreSoundNodes fits weighs tasks client command old n xs → AreSoundNodes fits weighs tasks client command new n xs
    nodes_stay command old new n [] m s = tt
    nodes_stay command old new n (x ∷ xs) m s = (node_stays command old new n x m s.0, nodes_stay command old new (n + 1) xs m s.1)

  nearer : (command : ℕ) (values : List (Option V)) (n i : ℕ) (x : NodeProgress V) → IsSoundNode fits weighs tasks client command values (n + suc i) x → IsSoundNode fits weighs tasks client command values (n + 1 + i) x
  nearer command values n i x s = let e : n + suc i ≡ n + 1 + i = omega arith in subst (λ k. IsSoundNode fits weighs tasks client command values k x) e s

  -- with a sound node at a place, sound ones stay so
  pub sound_set : (command : ℕ) (values : List (Option V)) (n i : ℕ) (xs : List (NodeProgress V)) (x : NodeProgress V) → AreSoundNodes fits weighs tasks client command values n xs → IsSoundNode fits weighs tasks client command values (n + i) x → AreSoundNodes fits weighs tasks client command values n (set xs i x)
  sound_set command values n i [] x s h = tt
  sound_set command values n zero (y ∷ ys) x s h = let k : n + zero ≡ n = omega arith in (subst (λ m. IsSoundNode fits weighs tasks client command values m x) k h, s.1)
  sound_set command values n (suc i) (y ∷ ys) x s h = (s.0, sound_set command values (n + 1) i ys x s.1 (nearer command values n i x h))
