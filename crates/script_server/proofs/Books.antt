-- Weights that are told, and parts of the books that come back.
use Rattle.std.proofs.Common.{◌≡◌, ℕ, zero, suc, ◌+◌, ◌*◌, List, [], ◌∷◌, ◌++◌, length, length-append, map, take, drop, cond, nat_eq, All, Result, Ok, IfOk, refl, ap, sym, subst, ◌∙◌, add-one, arith}
use Rattle.std.specs.Prelude.{sum_by}
use Rattle.std.proofs.lemmas.List.{length-map, map-append}
use Rattle.std.proofs.lemmas.List.Elements.{All-head, All-tail, All-nil, All-cons, All-append}
use Rattle.std.proofs.lemmas.List.Sums.{sum_by-cons}
use Rattle.std.proofs.Math.Seq.{take-append_seam}
use Rattle.csg_tree.specs.HalfSpaceTrees.{Tree}
use Rattle.bsp_tree.specs.Shapes.{SolidParts}
use Rattle.std.specs.List.{AllByRecursion}
use Rattle.bsp_tree.specs.Shapes.{tree_of}
use Rattle.bsp_tree.specs.Trees.{size}
use Rattle.bsp_boolean.specs.Solids.{solid_of}
use Rattle.memo_core.specs.Memo.{Entry, JournalRecord, EntryHeader, Answer, ProbeAnswer, FillAnswer, header_itself, owner_weight}
use Rattle.memo_core.specs.Views.{MaySay, header_in, headers_in}
use Rattle.subtree_memo.specs.Shares.{ShareView, fresh_share, opened_shares, parts_each, offers_of}
use Rattle.flight_memo.specs.Shares.{FlightView, opened_flights}
use Rattle.script_server.specs.Books.{weights_of, OffersSize, OfferSizes}

-- what an owner's entries weigh, by their marks alone
owned_marks : (owner : ℕ) (es : List (Entry Tree SolidParts)) → owner_weight header_itself owner (headers_in es) ≡ owner_weight header_in owner es
owned_marks owner [] = refl
owned_marks owner (e ∷ es) =
    sum_by-cons (λ (m : EntryHeader Tree). cond (nat_eq m.owner owner) m.weight 0) e.header (headers_in es)
    ∙ ap (λ n. cond (nat_eq e.header.owner owner) e.header.weight 0 + n) (owned_marks owner es)
    ∙ sym (sum_by-cons (λ (x : Entry Tree SolidParts). cond (nat_eq x.header.owner owner) x.header.weight 0) e es)

pub one_weight_more : (n weight : ℕ) (es : List (Entry Tree SolidParts)) (weights : List ℕ) → weights ≡ weights_of n (headers_in es) → weight ≡ owner_weight header_in n es →
    weights ++ weight ∷ [] ≡ weights_of (n + 1) (headers_in es)
one_weight_more n weight es weights before next =
    rw add-one (ap (λ ws. ws ++ weight ∷ []) before ∙ ap (λ w. weights_of n (headers_in es) ++ w ∷ []) (next ∙ sym (owned_marks n es)))

-- shares with all parts that a caller is given
pub parts_in_all : (shares : List FlightView) → All (λ s. s.share.parts ≡ parts_each) shares → sum_by (λ s. s.share.parts) shares ≡ parts_each * length shares
parts_in_all [] whole = refl
parts_in_all (s ∷ ss) whole =
    let rest = parts_in_all ss (All-tail (λ (x : FlightView). x.share.parts ≡ parts_each) s ss whole) in
    let own = All-head (λ (x : FlightView). x.share.parts ≡ parts_each) s ss whole in
    omega (arith, sum_by-cons (λ (x : FlightView). x.share.parts) s ss, rest, own)

-- what a memo gives its callers at first
pub all_opened : (n : ℕ) → All (λ s. (s.parts ≡ parts_each) × (offers_of s ≡ 0)) (opened_shares n)
all_opened zero = All-nil (λ s. (s.parts ≡ parts_each) × (offers_of s ≡ 0))
all_opened (suc n) =
    let P : ShareView → Type 0 = λ s. (s.parts ≡ parts_each) × (offers_of s ≡ 0) in
    All-append P (opened_shares n) (fresh_share n parts_each ∷ []) (all_opened n) (All-cons P (fresh_share n parts_each) [] (refl, refl) (All-nil P))

pub opened_many : (n : ℕ) → length (opened_shares n) ≡ n
opened_many zero = refl
opened_many (suc n) = omega (arith, length-append (opened_shares n) (fresh_share n parts_each ∷ []), opened_many n)

-- the memo's part of shares that are opened with their claims
memo_shares_of : (shares : List ShareView) → map (λ (s : FlightView). s.share) (opened_flights shares) ≡ shares
memo_shares_of [] = refl
memo_shares_of (s ∷ ss) = ap (λ rest. s ∷ rest) (memo_shares_of ss)

pub memo_opened : (n : ℕ) (shares : List ShareView) (flights : List FlightView) → shares ≡ opened_shares n → flights ≡ opened_flights shares →
    map (λ (s : FlightView). s.share) flights ≡ opened_shares n
memo_opened n shares flights first all = ap (map (λ (s : FlightView). s.share)) all ∙ memo_shares_of shares ∙ first

-- all that is left where all were written over
pub written_over : {A : Type 0} (n : ℕ) (new old : List A) → n ≡ length new → take n (new ++ drop (length new) old) ≡ new
written_over n new old same = ap (λ k. take k (new ++ drop (length new) old)) same ∙ take-append_seam new (drop (length new) old)

-- lists that are read item by item
pub mapped_many : {A B : Type 0} (f : A → B) (xs : List A) (ys : List B) → map f xs ≡ ys → length xs ≡ length ys
mapped_many f xs ys e = sym (length-map xs f) ∙ ap length e

pub mapped_same : {A B C : Type 0} (f : A → B) (g : C → B) (xs : List A) (ys : List C) → map f xs ≡ map g ys → length xs ≡ length ys
mapped_same f g xs ys e = mapped_many f xs (map g ys) e ∙ length-map ys g

composed : {A B C : Type 0} (f : A → B) (g : B → C) (xs : List A) → map (λ x. g (f x)) xs ≡ map g (map f xs)
composed f g [] = refl
composed f g (x ∷ xs) = ap (λ rest. g (f x) ∷ rest) (composed f g xs)

pub mapped_twice : {A B C : Type 0} (f : A → B) (g : B → C) (xs : List A) (ys : List B) (zs : List C) → map f xs ≡ ys → map g ys ≡ zs → map (λ x. g (f x)) xs ≡ zs
mapped_twice f g xs ys zs e h = composed f g xs ∙ ap (map g) e ∙ h

-- a list that is read item by item, with one item more
pub mapped_push : {A B : Type 0} (f : A → B) (xs : List A) (x : A) (ys : List B) (y : B) → map f xs ≡ ys → f x ≡ y → map f (xs ++ x ∷ []) ≡ ys ++ y ∷ []
mapped_push f xs x ys y e h = map-append f xs (x ∷ []) ∙ ap (λ l. l ++ f x ∷ []) e ∙ ap (λ z. ys ++ z ∷ []) h

-- two lists that are read item by item to one, with one item more each
pub mapped_alike : {A B C : Type 0} (f : A → B) (g : C → B) (xs : List A) (x : A) (ys : List C) (y : C) → map f xs ≡ map g ys → f x ≡ g y →
    map f (xs ++ x ∷ []) ≡ map g (ys ++ y ∷ [])
mapped_alike f g xs x ys y e h = mapped_push f xs x (map g ys) (g y) e h ∙ sym (map-append g ys (y ∷ []))

-- what holds of all that is read of a list
pub all_read : {A B : Type 0} (f : A → B) (P : B → Type 0) (xs : List A) → All P (map f xs) → All (λ x. P (f x)) xs
all_read f P [] all = All-nil (λ x. P (f x))
all_read f P (x ∷ xs) all = All-cons (λ y. P (f y)) x xs (All-head P (f x) (map f xs) all) (all_read f P xs (All-tail P (f x) (map f xs) all))

-- a list with one item more
pub pushed_many : {A : Type 0} (old new : List A) (x : A) → new ≡ old ++ x ∷ [] → length new ≡ length old + 1
pushed_many old new x e = ap length e ∙ length-append old (x ∷ [])

pub All_push : {A : Type 0} (P : A → Type 0) (xs : List A) (x : A) → All P xs → P x → All P (xs ++ x ∷ [])
All_push P xs x all here = All-append P xs (x ∷ []) all (All-cons P x [] here (All-nil P))

-- what holds of an answer where it is given holds of the one that was
pub of_given : {T E : Type 0} (P : T → Type 0) (r : Result T E) (x : T) → r ≡ Ok x → IfOk r P → P x
of_given {T} {E} P r x is h = subst (λ (q : Result T E). IfOk q P) is h

-- ---- what fills offered
-- a fill that offers the weight of a solid of its tree offers the size of its solid
size_offered : (tree : Tree) (said : Answer) → MaySay (λ (t : Tree) (solid : SolidParts). tree_of solid ≡ solid_of t) (λ solid. size (tree_of solid)) tree said → OffersSize tree said
size_offered tree (ProbeAnswer hit) may = tt
size_offered tree (FillAnswer weight kept evicted) (solid, fits, weighs) = weighs ∙ ap size fits

pub sizes_offered : (items : List (JournalRecord Tree)) → AllByRecursion (λ i. MaySay (λ (t : Tree) (solid : SolidParts). tree_of solid ≡ solid_of t) (λ solid. size (tree_of solid)) i.key i.answer) items → OfferSizes items
sizes_offered [] all = tt
sizes_offered (i ∷ is) all = (size_offered i.key i.answer all.0, sizes_offered is all.1)

-- there are as many weights as callers
pub weights_many : (n : ℕ) (ms : List (EntryHeader Tree)) → length (weights_of n ms) ≡ n
weights_many zero ms = refl
weights_many (suc n) ms = omega (arith, weights_many n ms, length-append (weights_of n ms) (owner_weight header_itself n ms ∷ []))

-- what holds of the answer that was given holds of an answer where it is given
pub given_of : {T E : Type 0} (P : T → Type 0) (r : Result T E) (x : T) → r ≡ Ok x → P x → IfOk r P
given_of {T} {E} P r x is h = subst (λ (q : Result T E). IfOk q P) (sym is) h
