-- Special arguments among the dynamic bindings, one after another.
use Rattle.std.proofs.Common.{◌≡◌, ℕ, suc, ◌-◌, ◌≤◌, List, [], ◌∷◌, ◌++◌, length, drop, reverse, refl, sym, ap, ◌∙◌, arith, append_assoc}
use Rattle.std.proofs.lemmas.List.{reverse-append}
use Rattle.scad_value.specs.Values.{Val}
use Rattle.scad_scope.specs.Names.{Pairs, oldest_pairs}

-- pairs go on dynamic bindings, the first first
abbrev pub set_on : Pairs Val → Pairs Val → Pairs Val
set_on [] bindings = bindings
set_on (p ∷ ps) bindings = set_on ps (p ∷ bindings)

pub set_all : (ps bindings : Pairs Val) → set_on ps bindings ≡ reverse ps ++ bindings
set_all [] bindings = refl
set_all (p ∷ ps) bindings =
    set_all ps (p ∷ bindings) ∙ sym (append_assoc (reverse ps) (p ∷ []) bindings)
    ∙ ap (λ l. l ++ bindings) (sym (reverse-append (p ∷ []) ps))

-- a pair more leaves the oldest as they are
pub oldest_more : (n : ℕ) (p : (List ℕ) × Val) (bindings : Pairs Val) → n ≤ length bindings → oldest_pairs n (p ∷ bindings) ≡ oldest_pairs n bindings
oldest_more n p bindings h =
    let k : suc (length bindings) - n ≡ suc (length bindings - n) = omega arith in
    ap (λ m. drop m (p ∷ bindings)) k

pub oldest_all : (bindings : Pairs Val) → oldest_pairs (length bindings) bindings ≡ bindings
oldest_all bindings = let k : length bindings - length bindings ≡ 0 = omega arith in ap (λ m. drop m bindings) k
