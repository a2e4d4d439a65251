-- Places of clients by name.
use Rattle.std.proofs.Common.{◌≡◌, ℕ, suc, ◌+◌, ◌<◌, ◌≤◌, Bool, true, false, cond, not, ltb, List, [], ◌∷◌, ◌++◌, map, length, get_or, set, refl, sym, ap, ap₂, ◌∙◌, arith, Option, Some, None, ◌||◌, Vec, Global}
use Rattle.std.specs.List.{prefix_len, position_or_len, position, list_any}
use Rattle.indexmap.specs.IndexSet.{insert_key}
use borrow.Author.Tests.{ltb-true, ltb-false}
use Rattle.std.specs.Str.{bytes_eq}
use Rattle.std.proofs.lemmas.List.{length-map, map_push}
use Rattle.script_reader.specs.declared.script.Command.{Command}
use Rattle.script_reader.specs.declared.script.ClientScript.{ClientScript}
use Rattle.script_reader.specs.Scripts.{ClientLine}
use Rattle.script_reader.specs.Reading.{with_command, with_client_line, place_in, commands_in}

prefix_len-map : {X Y : Type 0} (p : Y → Bool) (f : X → Y) (xs : List X) → prefix_len (λ x. p (f x)) xs ≡ prefix_len p (map f xs)
prefix_len-map p f [] = refl
prefix_len-map p f (x ∷ xs) = ap (λ (n : ℕ). cond (p (f x)) (1 + n) 0) (prefix_len-map p f xs)

position_at : ℕ → ℕ → Option ℕ
position_at n m = cond (ltb n m) (Some n) None

pub position-map : {X Y : Type 0} (p : Y → Bool) (f : X → Y) (xs : List X) → position (λ x. p (f x)) xs ≡ position p (map f xs)
unfolding position_at
position-map p f xs = ap₂ position_at (prefix_len-map (λ y. not (p y)) f xs) (sym (length-map xs f))

-- two lists that give the same names have the same place for a name
pub same_position : {X Y Z : Type 0} (p : Z → Bool) (f : X → Z) (g : Y → Z) (xs : List X) (ys : List Y) → map f xs ≡ map g ys → position (λ x. p (f x)) xs ≡ position (λ y. p (g y)) ys
same_position p f g xs ys e = position-map p f xs ∙ ap (position p) e ∙ sym (position-map p g ys)

one_plus : (n : ℕ) → 1 + n ≡ suc n
one_plus n = omega arith

known_step : (c : ClientScript) (cs : List ClientScript) (e : ClientLine) (d : ClientScript) (n : ℕ) (b : Bool) →
    (n < length cs → with_client_line cs e ≡ set cs n (with_command (get_or cs n d) e.command)) → cond (not b) (1 + n) 0 < suc (length cs) →
    cond b (with_command c e.command ∷ cs) (c ∷ with_client_line cs e) ≡ set (c ∷ cs) (cond (not b) (1 + n) 0) (with_command (get_or (c ∷ cs) (cond (not b) (1 + n) 0) d) e.command)
known_step c cs e d n true more h = refl
known_step c cs e d n false more h = rw one_plus (ap (λ (l : List ClientScript). c ∷ l) (more (omega arith)))

-- a line of a known client
pub known_entry : (cs : List ClientScript) (e : ClientLine) (d : ClientScript) → place_in e.name cs < length cs →
    with_client_line cs e ≡ set cs (place_in e.name cs) (with_command (get_or cs (place_in e.name cs) d) e.command)
known_entry [] e d h = absurd (omega arith)
known_entry (c ∷ cs) e d h = known_step c cs e d (place_in e.name cs) (bytes_eq e.name c.name) (known_entry cs e d) h

new_step : (c : ClientScript) (cs : List ClientScript) (e : ClientLine) (n : ℕ) (b : Bool) →
    (length cs ≤ n → with_client_line cs e ≡ cs ++ record { name = e.name; commands = e.command ∷ [] } ∷ []) → suc (length cs) ≤ cond (not b) (1 + n) 0 →
    cond b (with_command c e.command ∷ cs) (c ∷ with_client_line cs e) ≡ c ∷ (cs ++ record { name = e.name; commands = e.command ∷ [] } ∷ [])
new_step c cs e n true more h = absurd (omega arith)
new_step c cs e n false more h = ap (λ (l : List ClientScript). c ∷ l) (more (omega arith))

-- a line of a new client
pub new_entry : (cs : List ClientScript) (e : ClientLine) → length cs ≤ place_in e.name cs → with_client_line cs e ≡ cs ++ record { name = e.name; commands = e.command ∷ [] } ∷ []
new_entry [] e h = refl
new_entry (c ∷ cs) e h = new_step c cs e (place_in e.name cs) (bytes_eq e.name c.name) (new_entry cs e) h

commands_step : (c : ClientScript) (cs : List ClientScript) (name : List ℕ) (d : ClientScript) (n : ℕ) (b : Bool) →
    (n < length cs → commands_in name cs ≡ (get_or cs n d).commands) → cond (not b) (1 + n) 0 < suc (length cs) →
    cond b c.commands (commands_in name cs) ≡ (get_or (c ∷ cs) (cond (not b) (1 + n) 0) d).commands
commands_step c cs name d n true more h = refl
commands_step c cs name d n false more h = rw one_plus (more (omega arith))

pub known_commands : (cs : List ClientScript) (name : List ℕ) (d : ClientScript) → place_in name cs < length cs → commands_in name cs ≡ (get_or cs (place_in name cs) d).commands
known_commands [] name d h = absurd (omega arith)
known_commands (c ∷ cs) name d h = commands_step c cs name d (place_in name cs) (bytes_eq name c.name) (known_commands cs name d) h

no_commands_step : (c : ClientScript) (cs : List ClientScript) (name : List ℕ) (n : ℕ) (b : Bool) →
    (length cs ≤ n → commands_in name cs ≡ []) → suc (length cs) ≤ cond (not b) (1 + n) 0 → cond b c.commands (commands_in name cs) ≡ []
no_commands_step c cs name n true more h = absurd (omega arith)
no_commands_step c cs name n false more h = more (omega arith)

pub no_commands : (cs : List ClientScript) (name : List ℕ) → length cs ≤ place_in name cs → commands_in name cs ≡ []
no_commands [] name h = refl
no_commands (c ∷ cs) name h = no_commands_step c cs name (place_in name cs) (bytes_eq name c.name) (no_commands cs name) h

found_at : (n m : ℕ) (b : Bool) (i : ℕ) → ltb n m ≡ b → cond b (Some n) None ≡ Some i → (n ≡ i) × (n < m)
found_at n m true i t e = (cc e, ltb-true n m t)
found_at n m false i t e = absurd (let never : None ≡ Some i = e in cc never)

none_at : (n m : ℕ) (b : Bool) → ltb n m ≡ b → cond b (Some n) None ≡ None → m ≤ n
none_at n m true t e = absurd (let never : Some n ≡ None = e in cc never)
none_at n m false t e = ltb-false n m t

pub position_found : (name : List ℕ) (cs : List ClientScript) (i : ℕ) → position (λ c. bytes_eq name c.name) cs ≡ Some i → (place_in name cs ≡ i) × (place_in name cs < length cs)
position_found name cs i e = found_at (place_in name cs) (length cs) (ltb (place_in name cs) (length cs)) i refl e

pub position_none : {X : Type 0} (p : X → Bool) (xs : List X) → position p xs ≡ None → length xs ≤ position_or_len p xs
position_none p xs e = none_at (position_or_len p xs) (length xs) (ltb (position_or_len p xs) (length xs)) refl e

none_step : {X : Type 0} (p : X → Bool) (xs : List X) (n : ℕ) (b : Bool) → (length xs ≤ n → list_any p xs ≡ false) → suc (length xs) ≤ cond (not b) (1 + n) 0 → (b || list_any p xs) ≡ false
none_step p xs n true more h = absurd (omega arith)
none_step p xs n false more h = more (omega arith)

none_any : {X : Type 0} (p : X → Bool) (xs : List X) → length xs ≤ position_or_len p xs → list_any p xs ≡ false
none_any p [] h = refl
none_any p (x ∷ xs) h = none_step p xs (position_or_len p xs) (p x) (none_any p xs) h

-- the names once a new client stands behind the others
pub added_names : (keys keys' : List (Vec ℕ Global)) (value : Vec ℕ Global) (scripts : List ClientScript) (name : List ℕ) (commands : List Command) →
    map (λ (k : Vec ℕ Global). k.items) keys ≡ map (λ (c : ClientScript). c.name) scripts →
    position (λ (c : ClientScript). bytes_eq name c.name) scripts ≡ None → value.items ≡ name →
    keys' ≡ insert_key (λ (a b : Vec ℕ Global). bytes_eq a.items b.items) keys value →
    map (λ (k : Vec ℕ Global). k.items) keys' ≡ map (λ (c : ClientScript). c.name) (scripts ++ record { name = name; commands = commands } ∷ [])
added_names keys keys' value scripts name commands known fresh same h =
    let absent : list_any (λ (k : Vec ℕ Global). bytes_eq name k.items) keys ≡ false =
    none_any (λ (k : Vec ℕ Global). bytes_eq name k.items) keys
    (position_none (λ (k : Vec ℕ Global). bytes_eq name k.items) keys
    (same_position (bytes_eq name) (λ (k : Vec ℕ Global). k.items) (λ (c : ClientScript). c.name) keys scripts known ∙ fresh)) in
    let gone : list_any (λ (k : Vec ℕ Global). bytes_eq value.items k.items) keys ≡ false = ap (λ (n : List ℕ). list_any (λ (k : Vec ℕ Global). bytes_eq n k.items) keys) same ∙ absent in
    let grown : keys' ≡ keys ++ value ∷ [] = h ∙ ap (λ (b : Bool). cond b keys (keys ++ value ∷ [])) gone in
    let client : ClientScript = record { name = name; commands = commands } in
    ap (map (λ (k : Vec ℕ Global). k.items)) grown ∙ map_push (λ (k : Vec ℕ Global). k.items) keys value
    ∙ ap₂ (λ (front : List (List ℕ)) (last : List ℕ). front ++ last ∷ []) known same
    ∙ sym (map_push (λ (c : ClientScript). c.name) scripts client)
