-- The script of the demonstration has no fault.
use Rattle.std.proofs.Common.{◌≡◌, ◌≢◌, ◌⊎◌, ⊎_elim, inl, inr, ℕ, zero, suc, ◌+◌, ◌*◌, ◌/◌, ◌%◌, ◌<◌, ◌≤◌, Bool, true, false, cond, eqb, ltb, List, [], ◌∷◌, ◌++◌, length, flat_map, refl, sym, ◌∙◌, subst, arith, append_assoc, append-nil, length-append, codes}
use Rattle.std.specs.Prelude.{All}
use Rattle.std.specs.Str.{bytes_eq}
use Rattle.std.proofs.lemmas.Bool.{ltb-true}
use Rattle.std.proofs.lemmas.Bool.Decides.{eqb_tells}
use Rattle.std.proofs.lemmas.List.Elements.{All-nil, All-cons, All-push, All-append, All-weaker, All-same, All-head, All-tail}
use Rattle.plain_text.specs.Decimals.{digits_within, numeral, IsNumeralOf}
use Rattle.script_reader.specs.declared.script.Command.{Command}
use Rattle.script_reader.specs.declared.script.Command.TheVariants.{Put, Export}
use Rattle.script_reader.specs.declared.script.Script.{Script}
use Rattle.script_reader.specs.Lines.{IsFirstLine, StartsWithLines}
use Rattle.script_reader.specs.Spelling.{IsNameByte, IsName}
use Rattle.script_reader.specs.Scripts.{ClientLine, IsClientLine, IsSoundLine, AreSound, EndsScript, IsScript, clients_of, commands_of}
use Rattle.big_input.specs.DemoScript.{client_name, client_lines, demo_script}
use Rattle.plain_text.specs.Separators.{newline}

-- ---- numerals
digits_lack : (a divisions n : ℕ) → a < 48 → All (λ b. b ≢ a) (digits_within divisions n)
digits_lack a zero n low = All-nil (λ b. b ≢ a)
digits_lack a (suc divisions) zero low = All-nil (λ b. b ≢ a)
digits_lack a (suc divisions) (suc n) low =
    All-push (λ b. b ≢ a) (digits_within divisions (suc n / 10)) (48 + suc n % 10) (digits_lack a divisions (suc n / 10) low) (λ e. omega (arith, low, e))

-- a numeral has no byte below the digits
numeral_lacks : (a n : ℕ) → a < 48 → All (λ b. b ≢ a) (numeral n)
unfolding numeral
numeral_lacks a zero low = All-cons (λ b. b ≢ a) 48 [] (λ e. omega (arith, low, e)) (All-nil (λ b. b ≢ a))
numeral_lacks a (suc n) low = digits_lack a (suc n) (suc n) low

digits_few : (divisions n : ℕ) → length (digits_within divisions n) ≤ divisions
digits_few zero n = omega arith
digits_few (suc divisions) zero = omega arith
digits_few (suc divisions) (suc n) =
    omega (arith, digits_few divisions (suc n / 10), length-append (digits_within divisions (suc n / 10)) ((48 + suc n % 10) ∷ []))

numeral_few : (n : ℕ) → length (numeral n) ≤ n + 1
unfolding numeral
numeral_few zero = omega arith
numeral_few (suc n) = omega (arith, digits_few (suc n) (suc n))

-- ---- lines
-- none of the bytes is this one
abbrev lacks : ℕ → List ℕ → Bool
lacks a [] = true
lacks a (b ∷ bs) = cond (eqb b a) false (lacks a bs)

lacks_is : (a : ℕ) (bytes : List ℕ) → lacks a bytes ≡ true → All (λ b. b ≢ a) bytes
lacks_is a [] h = All-nil (λ b. b ≢ a)
lacks_is a (b ∷ bs) h =
    elim (eqb b a) as (λ t. ((t ≡ true) × (b ≡ a)) ⊎ ((t ≡ false) × (b ≢ a)) → cond t false (lacks a bs) ≡ true → All (λ c. c ≢ a) (b ∷ bs)) [
      | true ↦ λ t e. cc
      | false ↦ λ t e. ⊎_elim (λ u. cc) (λ u. All-cons (λ c. c ≢ a) b bs u.1 (lacks_is a bs e)) t
    ] (eqb_tells b a) h

name_lacks : (a : ℕ) (name : List ℕ) → a < 48 → IsName name → All (λ b. b ≢ a) name
name_lacks a name low named =
    All-weaker IsNameByte (λ b. b ≢ a) (λ b h e. ⊎_elim (λ l. absurd (omega (arith, low, l.0, e))) (λ l. absurd (omega (arith, low, l.0, e))) h) name named.bytes

ends_with : (a : ℕ) (front : List ℕ) → All (λ b. b ≢ a) (front ++ a ∷ []) → ⊥
ends_with a [] h = All-head (λ b. b ≢ a) a [] h refl
ends_with a (b ∷ front) h = ends_with a front (All-tail (λ b. b ≢ a) b (front ++ a ∷ []) h)

no_return : (bytes front : List ℕ) → All (λ b. b ≢ 13) bytes → bytes ≡ front ++ 13 ∷ [] → ⊥
no_return bytes front h e = ends_with 13 front (All-same (λ b. b ≢ 13) (front ++ 13 ∷ []) bytes (sym e) h)

-- a line without newlines and returns, and what stands behind its newline
some_bytes : (line rest : List ℕ) → line ++ newline ++ rest ≢ []
some_bytes [] rest e = cc e
some_bytes (b ∷ line) rest e = cc e

first_is : (bytes line rest : List ℕ) → All (λ b. b ≢ 10) line → All (λ b. b ≢ 13) line → bytes ≡ line ++ newline ++ rest → IsFirstLine bytes line rest
first_is bytes line rest plain whole e = record {
  raw = line;
  some = λ f. some_bytes line rest (sym e ∙ f);
  plain = plain;
  ended = inl e;
  trimmed = inr (refl, λ front f. no_return line front whole f);
}

-- a line that puts a text
abbrev put_line : List ℕ → ℕ → List ℕ → List ℕ
put_line name digit text = name ++ (codes " put " ++ (digit ∷ (32 ∷ text)))

put_is : (name text : List ℕ) (digit number : ℕ) → IsName name → IsNumeralOf (digit ∷ []) number → IsClientLine (put_line name digit text) (record { name = name; command = Put number text })
put_is name text digit number named written = (
  codes " put " ++ digit ∷ 32 ∷ text,
  record { spelled = refl; named = named; ended = inr (codes "put " ++ digit ∷ 32 ∷ text, refl) },
  inl (codes "put " ++ digit ∷ 32 ∷ text, refl, (digit ∷ [], 32 ∷ text, refl, written, inl refl)),
)

abbrev export_line : List ℕ → List ℕ
export_line name = name ++ codes " export"

export_is : (name : List ℕ) → IsName name → IsClientLine (export_line name) (record { name = name; command = Export })
export_is name named = (
  codes " export",
  record { spelled = refl; named = named; ended = inr (codes "export", refl) },
  inl (codes "export", refl, refl),
)

one : IsNumeralOf (codes "1") 1
one = (record { some = omega arith; short = omega arith; digits = (omega arith, tt) }, refl)

two : IsNumeralOf (codes "2") 2
two = (record { some = omega arith; short = omega arith; digits = (omega arith, tt) }, refl)

-- ---- the lines of one client
abbrev module_text : ℕ → List ℕ
module_text client =
    codes "module part(i) { translate([7*i, 0, 0]) difference() { cube(4); translate([1, 1, 0]) cube([2, 2, " ++ (numeral (1 + client % 3) ++ codes "]); } }")

abbrev loop_text : ℕ → List ℕ
loop_text n = codes "for (i = [1 : " ++ (numeral n ++ codes "]) part(i);")

abbrev module_entry : ℕ → ClientLine
module_entry client = record { name = client_name client; command = Put 1 (module_text client) }

abbrev loop_entry : ℕ → ℕ → ClientLine
loop_entry n client = record { name = client_name client; command = Put 2 (loop_text n) }

abbrev export_entry : ℕ → ClientLine
export_entry client = record { name = client_name client; command = Export }

regroup : (name a depth b c digits d e rest : List ℕ) →
    ((name ++ a ++ depth ++ (b ++ newline)) ++ (name ++ c ++ digits ++ (d ++ newline)) ++ name ++ (e ++ newline)) ++ rest
    ≡ (name ++ (a ++ (depth ++ b))) ++ newline ++ ((name ++ (c ++ (digits ++ d))) ++ newline ++ ((name ++ e) ++ newline ++ rest))
regroup name a depth b c digits d e rest = simp append_assoc

put_lacks : (a digit : ℕ) (name text : List ℕ) → a < 48 → lacks a (codes " put " ++ (digit ∷ (32 ∷ []))) ≡ true → IsName name → All (λ b. b ≢ a) text → All (λ b. b ≢ a) (put_line name digit text)
put_lacks a digit name text low front named h =
    All-append (λ b. b ≢ a) name (codes " put " ++ (digit ∷ (32 ∷ text))) (name_lacks a name low named)
    (All-append (λ b. b ≢ a) (codes " put " ++ (digit ∷ (32 ∷ []))) text (lacks_is a (codes " put " ++ (digit ∷ (32 ∷ []))) front) h)

-- a text around a numeral
around_lacks : (a n : ℕ) (front back : List ℕ) → a < 48 → lacks a front ≡ true → lacks a back ≡ true → All (λ b. b ≢ a) (front ++ (numeral n ++ back))
around_lacks a n front back low f b =
    All-append (λ b. b ≢ a) front (numeral n ++ back) (lacks_is a front f)
    (All-append (λ b. b ≢ a) (numeral n) back (numeral_lacks a n low) (lacks_is a back b))

module_lacks : (client : ℕ) → All (λ b. b ≢ 10) (module_text client) × All (λ b. b ≢ 13) (module_text client)
module_lacks client =
    let front : List ℕ = codes "module part(i) { translate([7*i, 0, 0]) difference() { cube(4); translate([1, 1, 0]) cube([2, 2, " in
    let back : List ℕ = codes "]); } }" in
    (around_lacks 10 (1 + client % 3) front back (omega arith) refl refl, around_lacks 13 (1 + client % 3) front back (omega arith) refl refl)

loop_lacks : (n : ℕ) → All (λ b. b ≢ 10) (loop_text n) × All (λ b. b ≢ 13) (loop_text n)
loop_lacks n =
    let front : List ℕ = codes "for (i = [1 : " in
    let back : List ℕ = codes "]) part(i);" in
    (around_lacks 10 n front back (omega arith) refl refl, around_lacks 13 n front back (omega arith) refl refl)

-- a line that puts such a text
put_first : (bytes rest name text : List ℕ) (digit : ℕ) → lacks 10 (codes " put " ++ (digit ∷ (32 ∷ []))) ≡ true → lacks 13 (codes " put " ++ (digit ∷ (32 ∷ []))) ≡ true → IsName name
    → All (λ b. b ≢ 10) text × All (λ b. b ≢ 13) text → bytes ≡ put_line name digit text ++ newline ++ rest → IsFirstLine bytes (put_line name digit text) rest
put_first bytes rest name text digit plain whole named h e =
    first_is bytes (put_line name digit text) rest (put_lacks 10 digit name text (omega arith) plain named h.0) (put_lacks 13 digit name text (omega arith) whole named h.1) e

export_lacks : (a : ℕ) (name : List ℕ) → a < 48 → lacks a (codes " export") ≡ true → IsName name → All (λ b. b ≢ a) (export_line name)
export_lacks a name low back named = All-append (λ b. b ≢ a) name (codes " export") (name_lacks a name low named) (lacks_is a (codes " export") back)

abbrev lines_of : ℕ → ℕ → List (List ℕ)
lines_of n client =
    put_line (client_name client) 49 (module_text client)
    ∷ put_line (client_name client) 50 (loop_text n)
    ∷ export_line (client_name client)
    ∷ []

-- the three lines of a client, each with its newline
regrouped_lines : (n client : ℕ) (rest : List ℕ) → client_lines n client ++ rest
    ≡ put_line (client_name client) 49 (module_text client) ++ newline ++ (put_line (client_name client) 50 (loop_text n) ++ newline ++ (export_line (client_name client) ++ newline ++ rest))
regrouped_lines n client rest =
    regroup (client_name client) (codes " put 1 module part(i) { translate([7*i, 0, 0]) difference() { cube(4); translate([1, 1, 0]) cube([2, 2, ") (numeral (1 + client % 3)) (codes "]); } }")
    (codes " put 2 for (i = [1 : ") (numeral n) (codes "]) part(i);") (codes " export") rest

client_begins : (n client : ℕ) (rest more : List ℕ) (lines : List (List ℕ)) → IsName (client_name client) → StartsWithLines rest lines more
    → StartsWithLines (client_lines n client ++ rest) (lines_of n client ++ lines) more
client_begins n client rest more lines named h =
    let name : List ℕ = client_name client in
    let third : List ℕ = export_line name ++ newline ++ rest in
    let second : List ℕ = put_line name 50 (loop_text n) ++ newline ++ third in (
      second,
      put_first (client_lines n client ++ rest) second name (module_text client) 49 refl refl named (module_lacks client) (regrouped_lines n client rest),
      (
        third,
        put_first second third name (loop_text n) 50 refl refl named (loop_lacks n) refl,
        (rest, first_is third (export_line name) rest (export_lacks 10 name (omega arith) refl named) (export_lacks 13 name (omega arith) refl named) refl, h),
      ),
    )

-- ---- each line is sound
few_step : (same : Bool) (command : Command) (commands : List Command) (n : ℕ) → length commands ≤ n → length (cond same (command ∷ commands) commands) ≤ suc n
few_step true command commands n few = omega (arith, few)
few_step false command commands n few = omega (arith, few)

few_commands : (name : List ℕ) (es : List ClientLine) → length (commands_of name es) ≤ length es
few_commands name [] = omega arith
few_commands name (e ∷ es) = few_step (bytes_eq name e.name) e.command (commands_of name es) (length es) (few_commands name es)

-- the lines of clients, up to the module of the next one, up to its loop, and up to its export
abbrev with_module : List ClientLine → ℕ → List ClientLine
with_module before client = before ++ module_entry client ∷ []

abbrev with_loop : ℕ → List ClientLine → ℕ → List ClientLine
with_loop n before client = with_module before client ++ loop_entry n client ∷ []

abbrev with_export : ℕ → List ClientLine → ℕ → List ClientLine
with_export n before client = with_loop n before client ++ export_entry client ∷ []

-- a client has a name, and before each of its lines stand fewer clients than there may be
record HasRoomFor (n : ℕ) (before : List ClientLine) (client : ℕ) : Type 0 where
  named : IsName (client_name client)
  few : length before ≤ 100
  first : ltb (length (clients_of before)) 16 ≡ true
  second : ltb (length (clients_of (with_module before client))) 16 ≡ true
  third : ltb (length (clients_of (with_loop n before client))) 16 ≡ true

sound_by : (before : List ClientLine) (line : List ℕ) (e : ClientLine) → length line ≤ 1024 → IsClientLine line e → length before ≤ 102 → ltb (length (clients_of before)) 16 ≡ true → IsSoundLine before line e
sound_by before line e short entry few room = record {
  short = short;
  entry = entry;
  clients = inr (ltb-true (length (clients_of before)) 16 room);
  commands = omega (arith, few, few_commands e.name before);
}

put_short : (name text : List ℕ) (digit : ℕ) → IsName name → length text ≤ 900 → length (put_line name digit text) ≤ 1024
put_short name text digit named few = omega (arith, few, named.short, length-append name (codes " put " ++ (digit ∷ (32 ∷ text))))

module_short : (client : ℕ) → length (module_text client) ≤ 900
module_short client =
    let depth : List ℕ = numeral (1 + client % 3) in
    omega (arith, numeral_few (1 + client % 3), length-append (codes "module part(i) { translate([7*i, 0, 0]) difference() { cube(4); translate([1, 1, 0]) cube([2, 2, ") (depth ++ codes "]); } }"), length-append depth (codes "]); } }"))

loop_short : (n : ℕ) → n ≤ 200 → length (loop_text n) ≤ 900
loop_short n few = omega (arith, few, numeral_few n, length-append (codes "for (i = [1 : ") (numeral n ++ codes "]) part(i);"), length-append (numeral n) (codes "]) part(i);"))

export_short : (name : List ℕ) → IsName name → length (export_line name) ≤ 1024
export_short name named = omega (arith, named.short, length-append name (codes " export"))

client_sound : (n : ℕ) (before all : List ClientLine) (client : ℕ) (lines : List (List ℕ)) → n ≤ 200 → HasRoomFor n before client
    → AreSound (with_export n before client) lines all → AreSound before (lines_of n client ++ lines) all
client_sound n before all client lines small room h =
    let name : List ℕ = client_name client in
    let named : IsName name = room.named in (
      module_entry client,
      sound_by before (put_line name 49 (module_text client)) (module_entry client) (put_short name (module_text client) 49 named (module_short client)) (put_is name (module_text client) 49 1 named one) (omega (arith, room.few)) room.first,
      (
        loop_entry n client,
        sound_by (with_module before client) (put_line name 50 (loop_text n)) (loop_entry n client) (put_short name (loop_text n) 50 named (loop_short n small)) (put_is name (loop_text n) 50 2 named two)
            (omega (arith, room.few, length-append before (module_entry client ∷ []))) room.second,
        (
          export_entry client,
          sound_by (with_loop n before client) (export_line name) (export_entry client) (export_short name named) (export_is name named)
              (omega (arith, room.few, length-append before (module_entry client ∷ []), length-append (with_module before client) (loop_entry n client ∷ []))) room.third,
          h,
        ),
      ),
    )

-- ---- all clients
abbrev HaveRoom : ℕ → List ClientLine → List ℕ → Type 0
HaveRoom n before [] = Unit {0}
HaveRoom n before (client ∷ clients) = HasRoomFor n before client × HaveRoom n (with_export n before client) clients

clients_end : (n : ℕ) (before : List ClientLine) (clients : List ℕ) → n ≤ 200 → HaveRoom n before clients → (script : Script) × EndsScript before (flat_map (client_lines n) clients) script
clients_end n before [] small h = (record { clients = clients_of before }, ([], before, refl, refl, refl))
clients_end n before (client ∷ clients) small h =
    let more = clients_end n (with_export n before client) clients small h.1 in (
      more.0,
      (
        lines_of n client ++ more.1.0,
        more.1.1,
        client_begins n client (flat_map (client_lines n) clients) [] more.1.0 h.0.named more.1.2,
        client_sound n before more.1.1 client more.1.0 small h.0 more.1.3,
        more.1.4,
      ),
    )

three_short : (first second third : List ℕ) → length first ≤ 1024 → length second ≤ 1024 → length third ≤ 1024
    → length (first ++ newline ++ (second ++ newline ++ (third ++ newline ++ []))) ≤ 4000
three_short first second third a b c =
    omega (
      arith,
      a,
      b,
      c,
      length-append first newline,
      length-append (first ++ newline) (second ++ newline ++ (third ++ newline ++ [])),
      length-append second newline,
      length-append (second ++ newline) (third ++ newline ++ []),
      length-append third newline,
      length-append (third ++ newline) [],
    )

client_short : (n client : ℕ) → n ≤ 200 → IsName (client_name client) → length (client_lines n client) ≤ 4000
client_short n client small named =
    let name : List ℕ = client_name client in
    subst (λ (l : List ℕ). length l ≤ 4000) (sym (regrouped_lines n client []) ∙ append-nil (client_lines n client))
    (three_short (put_line name 49 (module_text client)) (put_line name 50 (loop_text n)) (export_line name)
    (put_short name (module_text client) 49 named (module_short client)) (put_short name (loop_text n) 50 named (loop_short n small)) (export_short name named))

clients_short : (n : ℕ) (before : List ClientLine) (clients : List ℕ) → n ≤ 200 → HaveRoom n before clients → length (flat_map (client_lines n) clients) ≤ 4000 * length clients
clients_short n before [] small h = omega arith
clients_short n before (client ∷ clients) small h =
    omega (
      arith,
      client_short n client small h.0.named,
      clients_short n (with_export n before client) clients small h.1,
      length-append (client_lines n client) (flat_map (client_lines n) clients),
    )

number_name : (digit : ℕ) → 48 ≤ digit → digit ≤ 57 → IsName (99 ∷ digit ∷ [])
number_name digit low high = record {
  some = omega arith;
  short = omega arith;
  bytes = All-cons IsNameByte 99 (digit ∷ []) (inl (omega arith, omega arith)) (All-cons IsNameByte digit [] (inr (low, high)) (All-nil IsNameByte));
}

all_have_room : (n : ℕ) → HaveRoom n [] (1 ∷ 2 ∷ 3 ∷ 4 ∷ 5 ∷ 6 ∷ 7 ∷ 8 ∷ [])
unfolding numeral
all_have_room n =
    (record { named = number_name 49 (omega arith) (omega arith); few = omega arith; first = refl; second = refl; third = refl }, (record { named = number_name 50 (omega arith) (omega arith); few = omega arith; first = refl; second = refl; third = refl }, (record { named = number_name 51 (omega arith) (omega arith); few = omega arith; first = refl; second = refl; third = refl }, (record { named = number_name 52 (omega arith) (omega arith); few = omega arith; first = refl; second = refl; third = refl }, (record { named = number_name 53 (omega arith) (omega arith); few = omega arith; first = refl; second = refl; third = refl }, (record { named = number_name 54 (omega arith) (omega arith); few = omega arith; first = refl; second = refl; third = refl }, (record { named = number_name 55 (omega arith) (omega arith); few = omega arith; first = refl; second = refl; third = refl }, (record { named = number_name 56 (omega arith) (omega arith); few = omega arith; first = refl; second = refl; third = refl }, tt))))))))

-- it is a script
pub demo_is_script : (n : ℕ) → n ≤ 200 → (script : Script) × IsScript (demo_script n) script
demo_is_script n small =
    let room = all_have_room n in
    let ends = clients_end n [] (1 ∷ 2 ∷ 3 ∷ 4 ∷ 5 ∷ 6 ∷ 7 ∷ 8 ∷ []) small room in
    (ends.0, record { small = omega (arith, clients_short n [] (1 ∷ 2 ∷ 3 ∷ 4 ∷ 5 ∷ 6 ∷ 7 ∷ 8 ∷ []) small room); spelled = ends.1 })
