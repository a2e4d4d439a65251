-- How long a session's source is.
use Rattle.std.proofs.Common.{◌≡◌, ℕ, ◌*◌, ◌≤◌, List, [], ◌∷◌, ◌++◌, length, flat_map, arith, length-append, drop, ap, subst, sym}
use Rattle.std.specs.Prelude.{All}
use Rattle.std.proofs.lemmas.List.Elements.{All-head, All-tail}
use Rattle.std.proofs.lemmas.List.{drop_all}
use Rattle.plain_text.specs.Separators.{newline}
use Rattle.script_reader.specs.Limits.{IsText}

-- lines of at most 1,024 bytes, each followed by a newline
lines_short : (lines : List (List ℕ)) → All IsText lines → length (flat_map (λ line. line ++ newline) lines) ≤ 1025 * length lines
lines_short [] h = omega arith
lines_short (line ∷ lines) h =
    omega (arith, (All-head IsText line lines h).short, lines_short lines (All-tail IsText line lines h), length-append line newline, length-append (line ++ newline) (flat_map (λ l. l ++ newline) lines))

-- the lines were joined up to the last one
pub joined_short : (source : List ℕ) (items lines : List (List ℕ)) (index : ℕ) → items ≡ lines → All IsText lines → length lines ≤ 4096 → length items ≤ index
    → source ++ flat_map (λ line. line ++ newline) (drop index items) ≡ flat_map (λ line. line ++ newline) items → length source ≤ 4198400
joined_short source items lines index same texts few past joined =
    let whole = subst (λ (more : List (List ℕ)). source ++ flat_map (λ line. line ++ newline) more ≡ flat_map (λ line. line ++ newline) items) (drop_all index items past) joined in
    let each = lines_short items (subst (All IsText) (sym same) texts) in
    omega (arith, ap length whole, length-append source [], each, few, ap length same)
