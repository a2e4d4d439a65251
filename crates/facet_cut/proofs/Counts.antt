-- Lists with exactly one item, or none, that has a property.
use Rattle.std.proofs.Common.{inl, inr, Bool, true, false, List, [], ◌∷◌, ◌++◌}
use Rattle.facet_cut.specs.Sides.{HasNone, HasOne, HasOneWhere}

-- none of two lists
pub none_append : {A : Type 0} (P : A → Type 0) (xs ys : List A) → HasNone P xs → HasNone P ys →
    HasNone P (xs ++ ys)
none_append P [] ys h k = k
none_append P (x ∷ xs) ys h k = (h.0, none_append P xs ys h.1 k)

-- one of the first list, and none of the second
one_left : {A : Type 0} (P : A → Type 0) (xs ys : List A) → HasOne P xs → HasNone P ys → HasOne P (xs ++ ys)
one_left P [] ys h k = absurd h
one_left P (x ∷ xs) ys (inl h) k = inl (h.0, none_append P xs ys h.1 k)
one_left P (x ∷ xs) ys (inr h) k = inr (h.0, one_left P xs ys h.1 k)

one_right : {A : Type 0} (P : A → Type 0) (xs ys : List A) → HasNone P xs → HasOne P ys → HasOne P (xs ++ ys)
one_right P [] ys h k = k
one_right P (x ∷ xs) ys h k = inr (h.0, one_right P xs ys h.1 k)

-- where one of two lists has none, the two have what the other has
pub where_left : {A : Type 0} (c : Bool) (P : A → Type 0) (xs ys : List A) → HasOneWhere c P xs →
    HasNone P ys → HasOneWhere c P (xs ++ ys)
where_left true P xs ys h k = one_left P xs ys h k
where_left false P xs ys h k = none_append P xs ys h k

pub where_right : {A : Type 0} (c : Bool) (P : A → Type 0) (xs ys : List A) → HasNone P xs →
    HasOneWhere c P ys → HasOneWhere c P (xs ++ ys)
where_right true P xs ys h k = one_right P xs ys h k
where_right false P xs ys h k = none_append P xs ys h k
