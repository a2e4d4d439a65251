-- What turns and leaves pay: each as many evaluations as there are in the largest body, once for each call that may still stand
-- in others and once more. So a call pays for the calls of `children` in it that count nothing themselves.
use Rattle.std.proofs.Common.{◌≡◌, ◌≤◌, ◌*◌, subst, ap, ℕ, zero, suc, ◌+◌, ◌-◌, arith}
use Rattle.source_laws.proofs.Costs.{Rate}

pub more_product : (a n k : ℕ) → a * n + a * k ≤ a * (n + k)
more_product a n k = omega arith

module _ (largest : ℕ) where
  pub paid : ℕ → ℕ → ℕ
  paid zero count = largest * count
  paid (suc calls) count = paid calls count + largest * count

  pub paid_deeper : (n calls count : ℕ) → calls ≡ suc n → paid calls count ≡ paid n count + largest * count
  unfolding paid
  paid_deeper n calls count e = ap (λ c. paid c count) e

  pub paid_more : (calls count more : ℕ) → paid calls count + largest * more ≤ paid calls (count + more)
  unfolding paid
  paid_more zero count more = more_product largest count more
  paid_more (suc calls) count more = let rest = paid_more calls count more in let now = more_product largest count more in
      omega arith

  pub paid_by : (calls count more all : ℕ) → count + more ≡ all → paid calls count + largest * more ≤ paid calls all
  paid_by calls count more all e = subst (λ n. paid calls count + largest * more ≤ paid calls n) e (paid_more calls count more)

  pub paid_up_to : (calls count all : ℕ) → count ≤ all → paid calls count ≤ paid calls all
  paid_up_to calls count all h =
      let more = paid_by calls count (all - count) all (omega arith) in omega arith

  pub product_up_to : (count all : ℕ) → count ≤ all → largest * count ≤ largest * all
  product_up_to count all h = let more = more_product largest count (all - count) in
      let e : count + (all - count) ≡ all = omega arith in
      product_by count (all - count) all e
    where
      product_by : (count more all : ℕ) → count + more ≡ all → largest * count ≤ largest * all
      product_by count more all e = subst (λ n. largest * count ≤ largest * n) e
          (let more = more_product largest count more in omega arith)

  -- in all: what is paid for the given number of calls
  pub paid_all : (calls count : ℕ) → paid calls count ≡ suc calls * (largest * count)
  unfolding paid
  paid_all zero count = omega arith
  paid_all (suc calls) count = let rest = paid_all calls count in omega arith

  pub paid_swapped : (calls turns leaves more : ℕ) → paid calls (turns + leaves) + largest * more ≤ paid calls
      ((turns + more) + leaves)
  paid_swapped calls turns leaves more = paid_by calls (turns + leaves) more ((turns + more) + leaves) (omega arith)

  -- the rate of an expression, where the given number of calls are left and the given number of leaves stand
  abbrev pub rate_with : (calls leaves : ℕ) → Rate
  rate_with calls leaves = record {
    largest = largest;
    paid = λ turns. paid calls (turns + leaves);
    pays = λ turns more. paid_swapped calls turns leaves more;
    grows = λ turns all h. paid_up_to calls (turns + leaves) (all + leaves) (omega arith);
  }
