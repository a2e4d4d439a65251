-- Lines, commands and scripts that are written out.
use Rattle.std.proofs.Common.{◌≡◌, ◌≢◌, ◌⊎◌, inl, inr, ⊎_elim, ℕ, ◌≤◌, Bool, true, false, cond, eqb, List, [], ◌∷◌, ◌++◌, length, get_or, refl, sym, ap, subst, arith, length-append, codes}
use Rattle.std.specs.Prelude.{All}
use Rattle.std.proofs.lemmas.Bool.Decides.{eqb_tells}
use Rattle.std.proofs.lemmas.List.Elements.{All-nil, All-cons}
use Rattle.script_reader.specs.declared.script.Command.{Command}
use Rattle.script_reader.specs.declared.script.Command.TheVariants.{Put, Set, Cut, Show, Export, Bad}
use Rattle.script_reader.specs.declared.script.ScriptFault.TheVariants.{NoName}
use Rattle.script_reader.specs.Lines.{AreLines}
use Rattle.script_reader.specs.Spelling.{IsNameByte, IsName, IsKnownCommand, IsCommand, BeginsWithName}
use Rattle.script_reader.specs.Scripts.{ClientLine, IsSoundLine, IsScript, IsScriptFault}
use Rattle.script_reader.specs.Reading.{IsEditOf}
use Rattle.script_reader.proofs.CutLaws.{no_cut, one_space, digits_plain, tail_ends}
use Rattle.script_reader.proofs.CommandWords.{nothing, by_word}
use Rattle.script_reader.proofs.KnownCommands.{put_known}
use Rattle.plain_text.specs.Decimals.{IsNumeralOf}
use Rattle.plain_text.specs.Separators.{space}

-- ---- lines
-- none of the bytes is this one
abbrev lacks : ℕ → List ℕ → Bool
lacks a [] = true
lacks a (b ∷ bs) = cond (eqb b a) false (lacks a bs)

lacks_is : (a : ℕ) (bytes : List ℕ) → lacks a bytes ≡ true → All (λ b. b ≢ a) bytes
lacks_is a [] h = All-nil (λ b. b ≢ a)
lacks_is a (b ∷ bs) h =
    elim (eqb b a) as (λ t. ((t ≡ true) × (b ≡ a)) ⊎ ((t ≡ false) × (b ≢ a)) → cond t false (lacks a bs) ≡ true → All (λ c. c ≢ a) (b ∷ bs)) [
      | true ↦ λ t e. cc
      | false ↦ λ t e. ⊎_elim (λ u. cc) (λ u. All-cons (λ c. c ≢ a) b bs u.1 (lacks_is a bs e)) t
    ] (eqb_tells b a) h

ends_without : (bytes : List ℕ) → lacks 13 bytes ≡ true → (front : List ℕ) → bytes ≡ front ++ 13 ∷ [] → ⊥
ends_without bytes h front e = no_cut 13 front [] (subst (λ (l : List ℕ). All (λ b. b ≢ 13) l) e (lacks_is 13 bytes h))

-- a return before a line's end is dropped, and only one; an empty line is a line; the last line needs no newline
lines_are : AreLines (codes "a show\r\n\nb\r\r") (codes "a show" ∷ [] ∷ codes "b\r" ∷ [])
lines_are = (
  codes "\nb\r\r",
  record { raw = codes "a show\r"; some = λ e. cc; plain = lacks_is 10 (codes "a show\r") refl; ended = inl refl; trimmed = inl refl },
  (
    codes "b\r\r",
    record { raw = []; some = λ e. cc; plain = lacks_is 10 [] refl; ended = inl refl; trimmed = inr (refl, ends_without [] refl) },
    (
      [],
      record { raw = codes "b\r\r"; some = λ e. cc; plain = lacks_is 10 (codes "b\r\r") refl; ended = inr (refl, refl); trimmed = inl refl },
      refl,
    ),
  ),
)

-- ---- commands
one : IsNumeralOf (codes "1") 1
one = (record { some = omega arith; short = omega arith; digits = (omega arith, tt) }, refl)

two : IsNumeralOf (codes "2") 2
two = (record { some = omega arith; short = omega arith; digits = (omega arith, tt) }, refl)

-- leading zeros are allowed
seven : IsNumeralOf (codes "0000007") 7
seven = (record { some = omega arith; short = omega arith; digits = (omega arith, (omega arith, (omega arith, (omega arith, (omega arith, (omega arith, (omega arith, tt))))))) }, refl)

puts : IsCommand (codes " put 1 cube(1);") (Put 1 (codes "cube(1);"))
puts = inl (codes "put 1 cube(1);", refl, (codes "1", codes " cube(1);", refl, one, inl refl))

-- only one space goes before the text
puts_a_space : IsCommand (codes " put 1  x") (Put 1 (codes " x"))
puts_a_space = inl (codes "put 1  x", refl, (codes "1", codes "  x", refl, one, inl refl))

puts_nothing : IsCommand (codes " put 1") (Put 1 [])
puts_nothing = inl (codes "put 1", refl, (codes "1", [], refl, one, inr (refl, refl)))

puts_nothing_behind_a_space : IsCommand (codes " put 1 ") (Put 1 [])
puts_nothing_behind_a_space = inl (codes "put 1 ", refl, (codes "1", codes " ", refl, one, inl refl))

sets : IsCommand (codes " set 0000007 x") (Set 7 (codes "x"))
sets = inl (codes "set 0000007 x", refl, (codes "0000007", codes " x", refl, seven, inl refl))

cuts : IsCommand (codes " cut 1 2") (Cut 1 2)
cuts = inl (codes "cut 1 2", refl, (codes "1", codes "2", refl, one, two))

shows : IsCommand (codes " show") Show
shows = inl (codes "show", refl, refl)

exports : IsCommand (codes " export") Export
exports = inl (codes "export", refl, refl)

-- a name alone
name_alone : IsCommand [] Bad
name_alone = inr (refl, λ words known e h. cc)

behind_space : (words words' : List ℕ) → 32 ∷ words ≡ 32 ∷ words' → words ≡ words'
behind_space words words' e = cc

bad_by : (words : List ℕ) → ((known : Command) → IsKnownCommand words known → ⊥) → IsCommand (space ++ words) Bad
bad_by words none = inr (refl, λ words' known e h. none known (subst (λ (w : List ℕ). IsKnownCommand w known) (sym (behind_space words words' e)) h))

put_bad_by : (edit : List ℕ) → ((line : ℕ) (text : List ℕ) → IsEditOf edit line text → ⊥) → IsCommand (codes " put " ++ edit) Bad
put_bad_by edit none =
    ⊎_elim
    (λ h. absurd h)
    (λ h. bad_by (codes "put " ++ edit) h.1)
    (put_known (codes "put " ++ edit) edit Bad refl (inr (none, refl)))

-- a second space before the number
no_number : (line : ℕ) (text : List ℕ) → IsEditOf (codes " 1 x") line text → ⊥
no_number line text ([], tail, e, w, t) = absurd (omega (arith, w.0.some))
no_number line text (d ∷ ds, tail, e, w, t) =
    let space_first : 32 ≡ d = ap (λ (l : List ℕ). get_or l 0 0) e in
    digits_plain (d ∷ ds) line w 0 0 (omega arith) (sym space_first)

second_space_is_bad : IsCommand (codes " put  1 x") Bad
second_space_is_bad = put_bad_by (codes " 1 x") no_number

-- eight digits
too_many_digits : (line : ℕ) (text : List ℕ) → IsEditOf (codes "00000007 x") line text → ⊥
too_many_digits line text k =
    let cut = one_space k.0 (codes "00000007") k.1 (codes " x") (digits_plain k.0 line k.3) (lacks_is 32 (codes "00000007") refl) (tail_ends k.1 text k.4) (inr (codes "x", refl)) (sym k.2) in
    absurd (omega (arith, k.3.0.short, ap length cut.0))

eight_digits_are_bad : IsCommand (codes " put 00000007 x") Bad
eight_digits_are_bad = put_bad_by (codes "00000007 x") too_many_digits

-- a space behind a whole command
no_show : (known : Command) → IsKnownCommand (codes "show ") known → ⊥
no_show known h =
    let behind = by_word 3 (record { word = codes "show"; further = nothing Show }) (codes "show ") space known refl refl h in cc

space_behind_is_bad : IsCommand (codes " show ") Bad
space_behind_is_bad = bad_by (codes "show ") no_show

-- ---- scripts
letter : (b : ℕ) → 97 ≤ b → b ≤ 122 → IsName (b ∷ [])
letter b l h = record { some = omega arith; short = omega arith; bytes = All-cons IsNameByte b [] (inl (l, h)) (All-nil IsNameByte) }

abbrev show_line : ClientLine
show_line = record { name = codes "a"; command = Show }

show_is : IsSoundLine [] (codes "a show") show_line
show_is = record {
  short = omega arith;
  entry = (codes " show", record { spelled = refl; named = letter 97 (omega arith) (omega arith); ended = inr (codes "show", refl) }, shows);
  clients = inr (omega arith);
  commands = omega arith;
}

nameless : (name tail : List ℕ) → BeginsWithName [] name tail → ⊥
nameless name tail h = absurd (omega (arith, h.named.some, ap length h.spelled, length-append name tail))

-- the second of three lines is empty
no_name_is : IsScriptFault (codes "a show\n\nb show") (NoName 2)
no_name_is = inr (
  omega arith,
  (
    codes "a show" ∷ [],
    show_line ∷ [],
    [],
    codes "\nb show",
    codes "b show",
    (
      codes "\nb show",
      record { raw = codes "a show"; some = λ e. cc; plain = lacks_is 10 (codes "a show") refl; ended = inl refl; trimmed = inr (refl, ends_without (codes "a show") refl) },
      refl,
    ),
    (show_line, show_is, refl),
    record { raw = []; some = λ e. cc; plain = lacks_is 10 [] refl; ended = inl refl; trimmed = inr (refl, ends_without [] refl) },
    (refl, omega arith, nameless),
  ),
)

empty_script_is : IsScript [] (record { clients = [] })
empty_script_is = record { small = omega arith; spelled = ([], [], refl, refl, refl) }
