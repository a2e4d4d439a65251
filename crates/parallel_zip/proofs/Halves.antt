-- Two lists that are cut at one place.
use Rattle.std.proofs.Common.{◌≡◌, List, [], ◌∷◌, ◌++◌, length, refl, arith, subst, sym}
use Rattle.parallel_zip.specs.Pairs.{EachReady, EachWorked}

module _ {A B : Type 0} (P : A → B → Type 0) where
  pub ready_length : (xs : List A) (ys : List B) → EachReady P xs ys → length xs ≡ length ys
  ready_length [] [] r = refl
  ready_length (x ∷ xs) (y ∷ ys) r = omega (arith, ready_length xs ys r.1)
  ready_length [] (y ∷ ys) r = absurd r
  ready_length (x ∷ xs) [] r = absurd r

  pub ready_apart : (xs us : List A) (cs ds : List B) → length xs ≡ length cs → EachReady P (xs ++ us) (cs ++ ds) → EachReady P xs cs × EachReady P us ds
  ready_apart [] us [] ds l r = (tt, r)
  ready_apart (a ∷ xs) us (c ∷ cs) ds l r = let h = ready_apart xs us cs ds (omega arith) r.1 in ((r.0, h.0), h.1)
  ready_apart [] us (c ∷ cs) ds l r = absurd (omega arith)
  ready_apart (a ∷ xs) us [] ds l r = absurd (omega arith)

module _ {A B : Type 0} (P : A → B → A → B → Type 0) where
  pub worked_together : (xs us : List A) (cs ds : List B) (zs zs' : List A) (ws ws' : List B) → EachWorked P xs cs zs ws → EachWorked P us ds zs' ws' → EachWorked P (xs ++ us) (cs ++ ds) (zs ++ zs') (ws ++ ws')
  worked_together [] us [] ds [] zs' [] ws' h k = k
  worked_together (a ∷ xs) us (c ∷ cs) ds (z ∷ zs) zs' (w ∷ ws) ws' h k = (h.0, worked_together xs us cs ds zs zs' ws ws' h.1 k)
  worked_together xs us cs ds zs zs' ws ws' h k = absurd h

pub ready_at : {A B : Type 0} (P : A → B → Type 0) (xs us vs : List A) (ys cs ds : List B) → xs ≡ us ++ vs → ys ≡ cs ++ ds → length us ≡ length cs → EachReady P xs ys → EachReady P us cs × EachReady P vs ds
ready_at P xs us vs ys cs ds e f l r = ready_apart P us vs cs ds l (subst (λ b. EachReady P (us ++ vs) b) f (subst (λ a. EachReady P a ys) e r))

pub worked_at : {A B : Type 0} (P : A → B → A → B → Type 0) (xs us vs zs zs' : List A) (ys cs ds ws ws' : List B) → xs ≡ us ++ vs → ys ≡ cs ++ ds → EachWorked P us cs zs ws → EachWorked P vs ds zs' ws' → EachWorked P xs ys (zs ++ zs') (ws ++ ws')
worked_at P xs us vs zs zs' ys cs ds ws ws' e f h k =
    subst (λ a. EachWorked P a ys (zs ++ zs') (ws ++ ws')) (sym e)
    (subst (λ b. EachWorked P (us ++ vs) b (zs ++ zs') (ws ++ ws')) (sym f) (worked_together P us vs cs ds zs zs' ws ws' h k))
