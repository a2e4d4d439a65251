-- Claims of missing keys, and the log of how they began and ended.
use Rattle.std.specs.Prelude.{◌≡◌, ℕ, Bool, true, false, not, List, [], ◌∷◌, ◌++◌, filter, take, flat_map, sum_by, nat_eq, All, if◌then◌else◌}
use Rattle.std.specs.List.{AllPairs, list_any}
use Rattle.subtree_memo.specs.Shares.{ShareView}

-- a claim: its number, whose it is, and of which key
pub record Claim (K : Type 0) : Type 0 where
  pub number : ℕ
  pub caller : ℕ
  pub key : K

-- what the log says: a claim began, or the one of this number ended, and whether by `finish`
pub data Event (K : Type 0) : Type 0 where
  Begun : Claim K → Event K
  Ended : (number : ℕ) → (filled : Bool) → Event K

-- What contracts see of a claim that its caller holds: its number, its key, and the caller's share of the memo's books, on
-- which its miss and its beginning are booked.
pub record ClaimView (K : Type 0) : Type 0 where
  pub number : ℕ
  pub key : K
  pub share : ShareView

-- what contracts see of claims: those that are live, and the log
pub record ClaimsView (K : Type 0) : Type 0 where
  pub live : List (Claim K)
  pub log : List (Event K)
  -- for how many more live claims there is room, and for how many more events of the log
  pub places : ℕ
  pub spare : ℕ

module _ {K : Type 0} where
  -- a beginning counts 1
  abbrev pub begin_count_of : Event K → ℕ
  begin_count_of (Begun claim) = 1
  begin_count_of (Ended number filled) = 0

  -- an end counts 1
  abbrev pub end_count_of : Event K → ℕ
  end_count_of (Begun claim) = 0
  end_count_of (Ended number filled) = 1

  -- how many claims have begun
  abbrev pub begin_count : List (Event K) → ℕ
  begin_count log = sum_by begin_count_of log

  -- how many claims have ended
  abbrev pub end_count : List (Event K) → ℕ
  end_count log = sum_by end_count_of log

  -- the claim that an event begins
  abbrev pub claim_of : Event K → List (Claim K)
  claim_of (Begun claim) = claim ∷ []
  claim_of (Ended number filled) = []

  -- the claims that have begun, in their order
  abbrev pub claims_in : List (Event K) → List (Claim K)
  claims_in log = flat_map claim_of log

  -- an event ends the claim of a number
  abbrev pub is_end_of : ℕ → Event K → Bool
  is_end_of number (Begun claim) = false
  is_end_of number (Ended ended filled) = nat_eq ended number

  -- the claim of a number has ended
  abbrev pub has_ended : ℕ → List (Event K) → Bool
  has_ended number log = list_any (is_end_of number) log

  -- a claim has not ended
  abbrev pub has_not_ended : List (Event K) → Claim K → Bool
  has_not_ended log claim = not (has_ended claim.number log)

  -- the live claims are those that have begun and haven't ended
  abbrev pub live_claims : List (Event K) → List (Claim K)
  live_claims log = filter (has_not_ended log) (claims_in log)

  -- a claim has a number
  abbrev pub has_claim_number : ℕ → Claim K → Bool
  has_claim_number number claim = nat_eq number claim.number

  -- a claim has another number
  abbrev pub has_other_claim_number : ℕ → Claim K → Bool
  has_other_claim_number number claim = not (has_claim_number number claim)

  -- a claim of a number is live
  abbrev pub is_live : ℕ → List (Claim K) → Bool
  is_live number live = list_any (has_claim_number number) live

  -- the number of the first of some claims, and 0 where there is none
  abbrev pub first_number : List (Claim K) → ℕ
  first_number [] = 0
  first_number (claim ∷ live) = claim.number

  -- the number of the claim that an end ends: the one given where it is live, and else that of the first live one
  abbrev pub number_to_end : ℕ → List (Claim K) → ℕ
  number_to_end number live = if is_live number live then number else first_number live

  -- no live claim has a key
  abbrev pub IsFree : K → List (Claim K) → Type 0
  IsFree key live = All (λ claim. claim.key ≡ key → ⊥) live

  -- no two of some claims have one key
  abbrev pub NoKeyTwice : List (Claim K) → Type 0
  NoKeyTwice live = AllPairs (λ a b. a.key ≡ b.key → ⊥) live

  -- An event may follow a log: a claim that begins has the number of those that began before it, and no live claim
  -- has its key; one that ends is live.
  abbrev pub MayFollow : List (Event K) → Event K → Type 0
  MayFollow log (Begun claim) = (claim.number ≡ begin_count log) × IsFree claim.key (live_claims log)
  MayFollow log (Ended number filled) = is_live number (live_claims log) ≡ true

  -- behind some events, each event may follow those before it
  abbrev pub IsLegalAfter : List (Event K) → List (Event K) → Type 0
  IsLegalAfter before [] = Unit {0}
  IsLegalAfter before (event ∷ log) = MayFollow before event × IsLegalAfter (before ++ event ∷ []) log

  -- each event may follow those before it: numbers are given from 0 in order, an end is of a claim that is live, and
  -- before a key begins again its claim has ended
  abbrev pub IsLegalLog : List (Event K) → Type 0
  IsLegalLog log = IsLegalAfter [] log

  -- at no moment of a log has a key two live claims
  abbrev pub IsSingle : List (Event K) → Type 0
  IsSingle log = (n : ℕ) → NoKeyTwice (live_claims (take n log))

  -- What the claims of a memo say once it is closed: their log is legal and no key ever had two live claims, as many claims
  -- began as there were misses, all of them ended, and none is live.
  pub record AreClosedClaims (misses : ℕ) (view : ClaimsView K) : Type 0 where
    pub legal : IsLegalLog view.log
    pub single : IsSingle view.log
    pub begun : begin_count view.log ≡ misses
    pub ended : end_count view.log ≡ misses
    pub live : view.live ≡ []
    pub none_live : live_claims view.log ≡ []
