-- The names of parameters, kept for each definition beside it.
use Rattle.std.proofs.Common.{◌≡◌, ℕ, zero, suc, ◌<◌, List, [], ◌∷◌, length, map, get_or, ap, ◌∙◌, arith}

-- what stands at a definition's number in a list that says something of each is said of that definition
pub said_at_number : {A B C S : Type 0} (told : A → S) (seen : B → C) (said : C → S) (kept : List A) (defined : List B) (k : ℕ) (x : A) (other : C)
    → map told kept ≡ map (λ d. said (seen d)) defined → k < length (map seen defined) → x ≡ get_or kept k x
    → told x ≡ said (get_or (map seen defined) k other)
said_at_number told seen said kept [] k x other same there is = absurd (omega arith)
said_at_number told seen said [] (d ∷ ds) k x other same there is = absurd (cc)
said_at_number told seen said (y ∷ ys) (d ∷ ds) zero x other same there is =
    let heads : told y ≡ said (seen d) = cc in ap told is ∙ heads
said_at_number told seen said (y ∷ ys) (d ∷ ds) (suc k) x other same there is =
    said_at_number told seen said ys ds k x other (cc) (omega arith) is
