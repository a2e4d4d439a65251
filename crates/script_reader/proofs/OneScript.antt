-- Bytes are one script, or have one first fault, and never both.
use Rattle.std.proofs.Common.{◌≡◌, ⊎_elim, ℕ, suc, ◌+◌, ◌≤◌, false, List, [], ◌∷◌, ◌++◌, length, sym, ap, ◌∙◌, subst, arith}
use Rattle.std.proofs.lemmas.Bool.{cases_lt, false≢true}
use Rattle.script_reader.specs.declared.script.Script.{Script}
use Rattle.script_reader.specs.declared.script.ScriptFault.{ScriptFault}
use Rattle.script_reader.specs.declared.script.ScriptFault.TheVariants.{TooLarge, TooLong, NoName, TooManyClients, TooManyCommands, NoMemory}
use Rattle.script_reader.specs.Lines.{IsFirstLine, StartsWithLines}
use Rattle.script_reader.specs.Scripts.{ClientLine, IsClientLine, clients_of, commands_of, has_client, IsSoundLine, AreSound, IsLineFault, HasFirstLineFault, IsScript, IsScriptFault}
use Rattle.script_reader.specs.Reading.{place_in}
use Rattle.script_reader.proofs.Places.{no_commands}
use Rattle.script_reader.proofs.Grouping.{commands_among, is_among}
use Rattle.script_reader.proofs.OneLine.{one_first, one_name, one_entry}

no_lines : (before : List ClientLine) (name : List ℕ) → has_client name (clients_of before) ≡ false → commands_of name before ≡ []
no_lines before name none =
    ⊎_elim
    (λ among. absurd (false≢true (sym none ∙ is_among name (clients_of before) among)))
    (λ past. sym (commands_among name before) ∙ no_commands (clients_of before) name past)
    (cases_lt (place_in name (clients_of before)) (length (clients_of before)))

-- a sound line has no fault
no_fault : (before : List ClientLine) (line : List ℕ) (e : ClientLine) (number : ℕ) (f : ScriptFault) → IsSoundLine before line e → IsLineFault before line number f → ⊥
no_fault before line e number TooLarge h g = g
no_fault before line e number (TooLong at) h g = absurd (let short = h.short in let long = g.1 in omega arith)
no_fault before line e number (NoName at) h g = g.2 e.name h.entry.0 h.entry.1
no_fault before line e number (TooManyClients at) h g =
    let name = one_name line e.name g.2 h.entry.0 g.3 h.entry.1 g.4 in
    ⊎_elim
    (λ among. false≢true (sym g.5 ∙ ap (λ (n : List ℕ). has_client n (clients_of before)) (sym name.0) ∙ among))
    (λ few. (let many = g.6 in absurd (omega arith)))
    h.clients
no_fault before line e number (TooManyCommands at) h g =
    let name = one_name line e.name g.2 h.entry.0 g.3 h.entry.1 g.4 in
    absurd (omega (arith, h.commands, g.5, ap (λ (n : List ℕ). length (commands_of n before)) name.0))
no_fault before line e number NoMemory h g = g

numbers : (at at' number : ℕ) → at ≡ number → at' ≡ number → at ≡ at'
numbers at at' number h g = h ∙ sym g

clients_or_commands : (before : List ClientLine) (name name' : List ℕ) → name ≡ name' → has_client name (clients_of before) ≡ false → 8192 ≤ length (commands_of name' before) → ⊥
clients_or_commands before name name' same none many =
    absurd (omega (arith, many, ap length (no_lines before name none), ap (λ (n : List ℕ). length (commands_of n before)) same))

-- a line has one fault
one_line_fault : (before : List ClientLine) (line : List ℕ) (number : ℕ) (f g : ScriptFault) → IsLineFault before line number f → IsLineFault before line number g → f ≡ g
one_line_fault before line number TooLarge g h k = absurd h
one_line_fault before line number NoMemory g h k = absurd h
one_line_fault before line number (TooLong at) TooLarge h k = absurd k
one_line_fault before line number (TooLong at) NoMemory h k = absurd k
one_line_fault before line number (TooLong at) (TooLong at') h k = ap TooLong (numbers at at' number h.0 k.0)
one_line_fault before line number (TooLong at) (NoName at') h k = absurd (omega (arith, h.1, k.1))
one_line_fault before line number (TooLong at) (TooManyClients at') h k = absurd (omega (arith, h.1, k.1))
one_line_fault before line number (TooLong at) (TooManyCommands at') h k = absurd (omega (arith, h.1, k.1))
one_line_fault before line number (NoName at) TooLarge h k = absurd k
one_line_fault before line number (NoName at) NoMemory h k = absurd k
one_line_fault before line number (NoName at) (TooLong at') h k = absurd (omega (arith, h.1, k.1))
one_line_fault before line number (NoName at) (NoName at') h k = ap NoName (numbers at at' number h.0 k.0)
one_line_fault before line number (NoName at) (TooManyClients at') h k = absurd (h.2 k.2 k.3 k.4)
one_line_fault before line number (NoName at) (TooManyCommands at') h k = absurd (h.2 k.2 k.3 k.4)
one_line_fault before line number (TooManyClients at) TooLarge h k = absurd k
one_line_fault before line number (TooManyClients at) NoMemory h k = absurd k
one_line_fault before line number (TooManyClients at) (TooLong at') h k = absurd (omega (arith, h.1, k.1))
one_line_fault before line number (TooManyClients at) (NoName at') h k = absurd (k.2 h.2 h.3 h.4)
one_line_fault before line number (TooManyClients at) (TooManyClients at') h k = ap TooManyClients (numbers at at' number h.0 k.0)
one_line_fault before line number (TooManyClients at) (TooManyCommands at') h k =
    absurd (clients_or_commands before h.2 k.2 (one_name line h.2 k.2 h.3 k.3 h.4 k.4).0 h.5 k.5)
one_line_fault before line number (TooManyCommands at) TooLarge h k = absurd k
one_line_fault before line number (TooManyCommands at) NoMemory h k = absurd k
one_line_fault before line number (TooManyCommands at) (TooLong at') h k = absurd (omega (arith, h.1, k.1))
one_line_fault before line number (TooManyCommands at) (NoName at') h k = absurd (k.2 h.2 h.3 h.4)
one_line_fault before line number (TooManyCommands at) (TooManyClients at') h k =
    absurd (clients_or_commands before k.2 h.2 (one_name line k.2 h.2 k.3 h.3 k.4 h.4).0 k.5 h.5)
one_line_fault before line number (TooManyCommands at) (TooManyCommands at') h k = ap TooManyCommands (numbers at at' number h.0 k.0)

-- the lines of a reading, and the clients' lines that they give
abbrev Reads : List ClientLine → List ℕ → List (List ℕ) → List ClientLine → List ℕ → Type 0
Reads before bytes lines all rest = StartsWithLines bytes lines rest × AreSound before lines all

-- two readings of the same bytes go along until the shorter one ends
along : (before : List ClientLine) (bytes : List ℕ) (line : List ℕ) (lines : List (List ℕ)) (all : List ClientLine) (rest line' : List ℕ) (lines' : List (List ℕ)) (all' : List ClientLine) (rest' : List ℕ) →
    Reads before bytes (line ∷ lines) all rest → Reads before bytes (line' ∷ lines') all' rest' →
    (e : ClientLine) × (more : List ℕ) × Reads (before ++ e ∷ []) more lines all rest × Reads (before ++ e ∷ []) more lines' all' rest'
along before bytes line lines all rest line' lines' all' rest' h g =
    let first = one_first bytes line line' h.0.0 g.0.0 h.0.1 g.0.1 in
    let same : h.1.0 ≡ g.1.0 = one_entry line' h.1.0 g.1.0 (subst (λ (l : List ℕ). IsClientLine l h.1.0) first.0 h.1.1.entry) g.1.1.entry in (
      g.1.0,
      g.0.0,
      (
        subst (λ (m : List ℕ). StartsWithLines m lines rest) first.1 h.0.2,
        subst (λ (e : ClientLine). AreSound (before ++ e ∷ []) lines all) same h.1.2,
      ),
      (g.0.2, g.1.2),
    )

-- two whole readings give the same lines of clients
one_all : (before : List ClientLine) (bytes : List ℕ) (lines lines' : List (List ℕ)) (all all' : List ClientLine) → Reads before bytes lines all [] → Reads before bytes lines' all' [] → all ≡ all'
one_all before bytes [] [] all all' h g = h.1 ∙ sym g.1
one_all before bytes [] (line ∷ lines) all all' h g = absurd (g.0.1.some h.0)
one_all before bytes (line ∷ lines) [] all all' h g = absurd (h.0.1.some g.0)
one_all before bytes (line ∷ lines) (line' ∷ lines') all all' h g =
    let next = along before bytes line lines all [] line' lines' all' [] h g in
    one_all (before ++ next.0 ∷ []) next.1 lines lines' all all' next.2 next.3

pub one_script : (bytes : List ℕ) (s t : Script) → IsScript bytes s → IsScript bytes t → s ≡ t
one_script bytes s t h g =
    h.spelled.4
    ∙ ap (λ (es : List ClientLine). let made : Script = record { clients = clients_of es } in made) (one_all [] bytes h.spelled.0 g.spelled.0 h.spelled.1 g.spelled.1 (h.spelled.2, h.spelled.3) (g.spelled.2, g.spelled.3))
    ∙ sym g.spelled.4

-- a reading up to a line with a fault isn't part of a whole reading
fault_or_script : (before : List ClientLine) (bytes : List ℕ) (lines lines' : List (List ℕ)) (all all' : List ClientLine) (line at rest : List ℕ) (number : ℕ) (f : ScriptFault) →
    Reads before bytes lines all at → IsFirstLine at line rest → IsLineFault all line number f → Reads before bytes lines' all' [] → ⊥
fault_or_script before bytes [] [] all all' line at rest number f h first fault g = first.some (sym h.0 ∙ g.0)
fault_or_script before bytes [] (line' ∷ lines') all all' line at rest number f h first fault g =
    let same = one_first bytes line line' rest g.0.0 (subst (λ (b : List ℕ). IsFirstLine b line rest) (sym h.0) first) g.0.1 in
    no_fault before line g.1.0 number f (subst (λ (l : List ℕ). IsSoundLine before l g.1.0) (sym same.0) g.1.1) (subst (λ (es : List ClientLine). IsLineFault es line number f) h.1 fault)
fault_or_script before bytes (line' ∷ lines) [] all all' line at rest number f h first fault g = h.0.1.some g.0
fault_or_script before bytes (line' ∷ lines) (line'' ∷ lines') all all' line at rest number f h first fault g =
    let next = along before bytes line' lines all at line'' lines' all' [] h g in
    fault_or_script (before ++ next.0 ∷ []) next.1 lines lines' all all' line at rest number f next.2 first fault next.3

counted : (number n : ℕ) → number + suc n + 1 ≡ number + 1 + n + 1
counted number n = omega arith

-- two readings up to a line with a fault have the same fault
one_reading_fault : (before : List ClientLine) (bytes : List ℕ) (lines lines' : List (List ℕ)) (all all' : List ClientLine) (line at rest line' at' rest' : List ℕ) (number : ℕ) (f g : ScriptFault) →
    Reads before bytes lines all at → IsFirstLine at line rest → IsLineFault all line (number + length lines + 1) f →
    Reads before bytes lines' all' at' → IsFirstLine at' line' rest' → IsLineFault all' line' (number + length lines' + 1) g → f ≡ g
one_reading_fault before bytes [] [] all all' line at rest line' at' rest' number f g h first fault h' first' fault' =
    let same = one_first bytes line line' rest rest' (subst (λ (b : List ℕ). IsFirstLine b line rest) (sym h.0) first) (subst (λ (b : List ℕ). IsFirstLine b line' rest') (sym h'.0) first') in
    one_line_fault before line' (number + 0 + 1) f g
    (subst (λ (l : List ℕ). IsLineFault before l (number + 0 + 1) f) same.0 (subst (λ (es : List ClientLine). IsLineFault es line (number + 0 + 1) f) h.1 fault))
    (subst (λ (es : List ClientLine). IsLineFault es line' (number + 0 + 1) g) h'.1 fault')
one_reading_fault before bytes [] (next ∷ lines') all all' line at rest line' at' rest' number f g h first fault h' first' fault' =
    let same = one_first bytes line next rest h'.0.0 (subst (λ (b : List ℕ). IsFirstLine b line rest) (sym h.0) first) h'.0.1 in
    absurd (no_fault before line h'.1.0 (number + 0 + 1) f (subst (λ (l : List ℕ). IsSoundLine before l h'.1.0) (sym same.0) h'.1.1) (subst (λ (es : List ClientLine). IsLineFault es line (number + 0 + 1) f) h.1 fault))
one_reading_fault before bytes (next ∷ lines) [] all all' line at rest line' at' rest' number f g h first fault h' first' fault' =
    let same = one_first bytes line' next rest' h.0.0 (subst (λ (b : List ℕ). IsFirstLine b line' rest') (sym h'.0) first') h.0.1 in
    absurd (no_fault before line' h.1.0 (number + 0 + 1) g (subst (λ (l : List ℕ). IsSoundLine before l h.1.0) (sym same.0) h.1.1) (subst (λ (es : List ClientLine). IsLineFault es line' (number + 0 + 1) g) h'.1 fault'))
one_reading_fault before bytes (next ∷ lines) (next' ∷ lines') all all' line at rest line' at' rest' number f g h first fault h' first' fault' =
    let go = along before bytes next lines all at next' lines' all' at' h h' in
    one_reading_fault (before ++ go.0 ∷ []) go.1 lines lines' all all' line at rest line' at' rest' (number + 1) f g
    go.2 first (subst (λ (n : ℕ). IsLineFault all line n f) (counted number (length lines)) fault)
    go.3 first' (subst (λ (n : ℕ). IsLineFault all' line' n g) (counted number (length lines')) fault')

fault_before_script : (bytes : List ℕ) (f : ScriptFault) (s : Script) → HasFirstLineFault [] 0 bytes f → IsScript bytes s → ⊥
fault_before_script bytes f s h g =
    fault_or_script [] bytes h.0 g.spelled.0 h.1 g.spelled.1 h.2 h.3 h.4 (0 + length h.0 + 1) f (h.5, h.6) h.7 h.8 (g.spelled.2, g.spelled.3)

pub not_both : (bytes : List ℕ) (s : Script) (f : ScriptFault) → IsScript bytes s → IsScriptFault bytes f → ⊥
not_both bytes s f h g =
    ⊎_elim
    (λ large. (let small = h.small in absurd (omega (arith, large.1))))
    (λ fault. fault_before_script bytes f s fault.1 h)
    g

one_has_fault : (bytes : List ℕ) (f g : ScriptFault) → HasFirstLineFault [] 0 bytes f → HasFirstLineFault [] 0 bytes g → f ≡ g
one_has_fault bytes f g h k =
    one_reading_fault [] bytes h.0 k.0 h.1 k.1 h.2 h.3 h.4 k.2 k.3 k.4 0 f g (h.5, h.6) h.7 h.8 (k.5, k.6) k.7 k.8

pub one_fault : (bytes : List ℕ) (f g : ScriptFault) → IsScriptFault bytes f → IsScriptFault bytes g → f ≡ g
one_fault bytes f g h k =
    ⊎_elim
    (λ a. ⊎_elim (λ b. a.0 ∙ sym b.0) (λ b. absurd (omega (arith, a.1, b.0))) k)
    (λ a. ⊎_elim (λ b. absurd (omega (arith, a.0, b.1))) (λ b. one_has_fault bytes f g a.1 b.1) k)
    h
