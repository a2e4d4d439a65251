-- What holds of all items of a list.
use Rattle.std.proofs.Common.{◌≡◌, ℕ, ◌+◌, ◌<◌, List, [], ◌∷◌, ◌++◌, length, get_or, take, subst, sym, All}
use Rattle.std.specs.List.{AllZip}
use Rattle.std.proofs.Math.Seq.{take-length}
use Rattle.std.proofs.lemmas.List.{take_more}
use Rattle.std.proofs.lemmas.List.Elements.{All-cons, All-head, All-nil, All-push, All-tail}

pub all_done : {X : Type 0} (P : X → Type 0) (xs : List X) (i : ℕ) → i ≡ length xs → All P (take i xs) → All P xs
all_done P xs i e h = subst (All P) (take-length xs) (subst (λ (n : ℕ). All P (take n xs)) e h)

pub all_next : {X : Type 0} (P : X → Type 0) (xs : List X) (i : ℕ) (d : X) → i < length xs → All P (take i xs) → P (get_or xs i d) → All P (take (i + 1) xs)
all_next P xs i d lt h here = subst (All P) (sym (take_more xs i d lt)) (All-push P (take i xs) (get_or xs i d) h here)

-- one more pair
pub zip_push : {A B : Type 0} (R : A → B → Type 0) (xs : List A) (ys : List B) (x : A) (y : B) → AllZip R xs ys → R x y → AllZip R (xs ++ x ∷ []) (ys ++ y ∷ [])
zip_push R [] [] x y h r = (r, h)
zip_push R [] (b ∷ ys) x y h r = absurd h
zip_push R (a ∷ xs) [] x y h r = absurd h
zip_push R (a ∷ xs) (b ∷ ys) x y h r = (h.0, zip_push R xs ys x y h.1 r)

pub zip_second : {A B : Type 0} (R : A → B → Type 0) (P : A → Type 0) (Q : B → Type 0) → ((x : A) (y : B) → R x y → P x → Q y) → (xs : List A) (ys : List B) → AllZip R xs ys → All P xs → All Q ys
zip_second R P Q f [] [] h p = All-nil Q
zip_second R P Q f [] (b ∷ ys) h p = absurd h
zip_second R P Q f (a ∷ xs) [] h p = absurd h
zip_second R P Q f (a ∷ xs) (b ∷ ys) h p = All-cons Q b ys (f a b h.0 (All-head P a xs p)) (zip_second R P Q f xs ys h.1 (All-tail P a xs p))

pub zip_first : {A B : Type 0} (R : A → B → Type 0) (P : A → Type 0) (Q : B → Type 0) → ((x : A) (y : B) → R x y → Q y → P x) → (xs : List A) (ys : List B) → AllZip R xs ys → All Q ys → All P xs
zip_first R P Q f [] [] h q = All-nil P
zip_first R P Q f [] (b ∷ ys) h q = absurd h
zip_first R P Q f (a ∷ xs) [] h q = absurd h
zip_first R P Q f (a ∷ xs) (b ∷ ys) h q = All-cons P a xs (f a b h.0 (All-head Q b ys q)) (zip_first R P Q f xs ys h.1 (All-tail Q b ys q))
