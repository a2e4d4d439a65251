-- The clients of some lines, once one more line stands behind them.
use Rattle.std.proofs.Common.{◌≡◌, ◌≢◌, ◌⊎◌, inl, inr, ⊎_elim, ℕ, suc, ◌+◌, ◌<◌, ◌≤◌, Bool, true, false, cond, not, ◌||◌, List, [], ◌∷◌, ◌++◌, length, refl, sym, ap, ◌∙◌, arith, append-nil}
use Rattle.std.specs.List.{filter}
use Rattle.std.specs.Str.{bytes_eq}
use Rattle.std.proofs.lemmas.Slice.Eq.{bytes_eq-Decides}
use Rattle.std.proofs.lemmas.Bool.{false≢true}
use Rattle.script_reader.specs.declared.script.Command.{Command}
use Rattle.script_reader.specs.declared.script.ClientScript.{ClientScript}
use Rattle.script_reader.specs.Scripts.{ClientLine, commands_of, clients_of, has_client}
use Rattle.script_reader.specs.Reading.{with_command, with_client_line, place_in, commands_in}

abbrev others : List ℕ → ClientScript → Bool
others name client = not (bytes_eq name client.name)

bool_cases : (b : Bool) → (b ≡ true) ⊎ (b ≡ false)
bool_cases true = inl refl
bool_cases false = inr refl

-- two names are one, or not
name_cases : (a b : List ℕ) → ((bytes_eq a b ≡ true) × (a ≡ b)) ⊎ ((bytes_eq a b ≡ false) × (a ≢ b))
name_cases a b =
    ⊎_elim
    (λ t. inl (t, (bytes_eq-Decides a b).0 t))
    (λ f. inr (f, λ e. false≢true (sym f ∙ (bytes_eq-Decides a b).1 e)))
    (bool_cases (bytes_eq a b))

same_names : (a b : List ℕ) → a ≡ b → bytes_eq a b ≡ true
same_names a b e = (bytes_eq-Decides a b).1 e

other_names : (a b : List ℕ) → a ≢ b → bytes_eq a b ≡ false
other_names a b n = ⊎_elim (λ h. absurd (n h.1)) (λ h. h.0) (name_cases a b)

append_step : (b : Bool) (k : Command) (x y z : List Command) → x ≡ y ++ z → cond b (k ∷ x) x ≡ cond b (k ∷ y) y ++ z
append_step true k x y z h = ap (λ (l : List Command). k ∷ l) h
append_step false k x y z h = h

pub commands_append : (name : List ℕ) (es ys : List ClientLine) → commands_of name (es ++ ys) ≡ commands_of name es ++ commands_of name ys
commands_append name [] ys = refl
commands_append name (e ∷ es) ys = append_step (bytes_eq name e.name) e.command (commands_of name (es ++ ys)) (commands_of name es) (commands_of name ys) (commands_append name es ys)

one_command : (name : List ℕ) (x : ClientLine) (b : Bool) → bytes_eq name x.name ≡ b → commands_of name (x ∷ []) ≡ cond b (x.command ∷ []) []
one_command name x b e = ap (λ (t : Bool). cond t (x.command ∷ []) []) e

drop_step : (name : List ℕ) (c d : ClientScript) (cs ds : List ClientScript) → d.name ≡ c.name → filter (others name) ds ≡ filter (others name) cs → bytes_eq name c.name ≡ true →
    filter (others name) (d ∷ ds) ≡ filter (others name) (c ∷ cs)
drop_step name c d cs ds same h t =
    let t' : bytes_eq name d.name ≡ true = ap (bytes_eq name) same ∙ t in
    ap (λ (b : Bool). cond (not b) (d ∷ filter (others name) ds) (filter (others name) ds)) t' ∙ h ∙ sym (ap (λ (b : Bool). cond (not b) (c ∷ filter (others name) cs) (filter (others name) cs)) t)

-- a line of a client leaves the others as they are
drop_same : (name : List ℕ) (x : ClientLine) → x.name ≡ name → (cs : List ClientScript) → filter (others name) (with_client_line cs x) ≡ filter (others name) cs
drop_same name x e [] = ap (λ (b : Bool). cond (not b) (record { name = x.name; commands = x.command ∷ [] } ∷ []) []) (same_names name x.name (sym e))
drop_same name x e (c ∷ cs) =
    ⊎_elim
    (λ yes. ap (λ (b : Bool). filter (others name) (cond b (with_command c x.command ∷ cs) (c ∷ with_client_line cs x))) yes.0
    ∙ drop_step name c (with_command c x.command) cs cs refl refl (same_names name c.name (sym e ∙ yes.1)))
    (λ no. ap (λ (b : Bool). filter (others name) (cond b (with_command c x.command ∷ cs) (c ∷ with_client_line cs x))) no.0
    ∙ ap (λ (l : List ClientScript). cond (others name c) (c ∷ l) l) (drop_same name x e cs))
    (name_cases x.name c.name)

-- among the other clients a line of one of them acts as among all
keep_others : (name : List ℕ) (x : ClientLine) → x.name ≢ name → (cs : List ClientScript) → filter (others name) (with_client_line cs x) ≡ with_client_line (filter (others name) cs) x
keep_others name x n [] = ap (λ (b : Bool). cond (not b) (record { name = x.name; commands = x.command ∷ [] } ∷ []) []) (other_names name x.name (λ e. n (sym e)))
keep_others name x n (c ∷ cs) =
    ⊎_elim
    (λ yes. (let f : bytes_eq name c.name ≡ false = other_names name c.name (λ e. n (yes.1 ∙ sym e)) in
    ap (λ (b : Bool). filter (others name) (cond b (with_command c x.command ∷ cs) (c ∷ with_client_line cs x))) yes.0
    ∙ ap (λ (b : Bool). cond (not b) (with_command c x.command ∷ filter (others name) cs) (filter (others name) cs)) f
    ∙ sym (ap (λ (b : Bool). cond b (with_command c x.command ∷ filter (others name) cs) (c ∷ with_client_line (filter (others name) cs) x)) yes.0)
    ∙ sym (ap (λ (b : Bool). with_client_line (cond (not b) (c ∷ filter (others name) cs) (filter (others name) cs)) x) f)))
    (λ no. ap (λ (b : Bool). filter (others name) (cond b (with_command c x.command ∷ cs) (c ∷ with_client_line cs x))) no.0
    ∙ ⊎_elim
    (λ t. ap (λ (b : Bool). cond (not b) (c ∷ filter (others name) (with_client_line cs x)) (filter (others name) (with_client_line cs x))) t
    ∙ keep_others name x n cs
    ∙ sym (ap (λ (b : Bool). with_client_line (cond (not b) (c ∷ filter (others name) cs) (filter (others name) cs)) x) t))
    (λ f. ap (λ (b : Bool). cond (not b) (c ∷ filter (others name) (with_client_line cs x)) (filter (others name) (with_client_line cs x))) f
    ∙ ap (λ (l : List ClientScript). c ∷ l) (keep_others name x n cs)
    ∙ sym (ap (λ (b : Bool). cond b (with_command c x.command ∷ filter (others name) cs) (c ∷ with_client_line (filter (others name) cs) x)) no.0)
    ∙ sym (ap (λ (b : Bool). with_client_line (cond (not b) (c ∷ filter (others name) cs) (filter (others name) cs)) x) f))
    (bool_cases (bytes_eq name c.name)))
    (name_cases x.name c.name)

abbrev client_of : List ℕ → List Command → ClientScript
client_of name commands = record { name = name; commands = commands }

-- the clients of all lines are those of the lines before, with the last line
pub clients_more : (es : List ClientLine) (x : ClientLine) → clients_of (es ++ x ∷ []) ≡ with_client_line (clients_of es) x
clients_more [] x = refl
clients_more (e ∷ es) x =
    ap (λ (l : List ClientScript). client_of e.name (e.command ∷ commands_of e.name (es ++ x ∷ [])) ∷ filter (others e.name) l) (clients_more es x)
    ∙ ap (λ (l : List Command). client_of e.name (e.command ∷ l) ∷ filter (others e.name) (with_client_line (clients_of es) x)) (commands_append e.name es (x ∷ []))
    ∙ ⊎_elim
    (λ yes. ap (λ (l : List Command). client_of e.name (e.command ∷ (commands_of e.name es ++ l)) ∷ filter (others e.name) (with_client_line (clients_of es) x)) (one_command e.name x true (same_names e.name x.name (sym yes.1)))
    ∙ ap (λ (l : List ClientScript). client_of e.name (e.command ∷ (commands_of e.name es ++ x.command ∷ [])) ∷ l) (drop_same e.name x yes.1 (clients_of es))
    ∙ sym (ap (λ (b : Bool). cond b (with_command (client_of e.name (e.command ∷ commands_of e.name es)) x.command ∷ filter (others e.name) (clients_of es)) (client_of e.name (e.command ∷ commands_of e.name es) ∷ with_client_line (filter (others e.name) (clients_of es)) x)) yes.0))
    (λ no. ap (λ (l : List Command). client_of e.name (e.command ∷ (commands_of e.name es ++ l)) ∷ filter (others e.name) (with_client_line (clients_of es) x)) (one_command e.name x false (other_names e.name x.name (λ h. no.1 (sym h))))
    ∙ ap (λ (l : List Command). client_of e.name (e.command ∷ l) ∷ filter (others e.name) (with_client_line (clients_of es) x)) (append-nil (commands_of e.name es))
    ∙ ap (λ (l : List ClientScript). client_of e.name (e.command ∷ commands_of e.name es) ∷ l) (keep_others e.name x no.1 (clients_of es))
    ∙ sym (ap (λ (b : Bool). cond b (with_command (client_of e.name (e.command ∷ commands_of e.name es)) x.command ∷ filter (others e.name) (clients_of es)) (client_of e.name (e.command ∷ commands_of e.name es) ∷ with_client_line (filter (others e.name) (clients_of es)) x)) no.0))
    (name_cases x.name e.name)

in_others : (name other : List ℕ) → name ≢ other → (cs : List ClientScript) → commands_in name (filter (others other) cs) ≡ commands_in name cs
in_others name other n [] = refl
in_others name other n (c ∷ cs) =
    ⊎_elim
    (λ yes. ap (λ (b : Bool). commands_in name (cond (not b) (c ∷ filter (others other) cs) (filter (others other) cs))) yes.0
    ∙ in_others name other n cs
    ∙ sym (ap (λ (b : Bool). cond b c.commands (commands_in name cs)) (other_names name c.name (λ h. n (h ∙ sym yes.1)))))
    (λ no. ap (λ (b : Bool). commands_in name (cond (not b) (c ∷ filter (others other) cs) (filter (others other) cs))) no.0
    ∙ ap (λ (l : List Command). cond (bytes_eq name c.name) c.commands l) (in_others name other n cs))
    (name_cases other c.name)

-- a client's commands among the clients are those of its lines
pub commands_among : (name : List ℕ) (es : List ClientLine) → commands_in name (clients_of es) ≡ commands_of name es
commands_among name [] = refl
commands_among name (e ∷ es) =
    ⊎_elim
    (λ yes. ap (λ (b : Bool). cond b (e.command ∷ commands_of e.name es) (commands_in name (filter (others e.name) (clients_of es)))) yes.0
    ∙ ap (λ (n : List ℕ). e.command ∷ commands_of n es) (sym yes.1)
    ∙ sym (ap (λ (b : Bool). cond b (e.command ∷ commands_of name es) (commands_of name es)) yes.0))
    (λ no. ap (λ (b : Bool). cond b (e.command ∷ commands_of e.name es) (commands_in name (filter (others e.name) (clients_of es)))) no.0
    ∙ in_others name e.name no.1 (clients_of es) ∙ commands_among name es
    ∙ sym (ap (λ (b : Bool). cond b (e.command ∷ commands_of name es) (commands_of name es)) no.0))
    (name_cases name e.name)

has_step : (b t : Bool) (n m : ℕ) → (n < m → t ≡ true) → cond (not b) (1 + n) 0 < suc m → (b || t) ≡ true
has_step true t n m more h = refl
has_step false t n m more h = more (omega arith)

pub is_among : (name : List ℕ) (cs : List ClientScript) → place_in name cs < length cs → has_client name cs ≡ true
is_among name [] h = absurd (omega arith)
is_among name (c ∷ cs) h = has_step (bytes_eq name c.name) (has_client name cs) (place_in name cs) (length cs) (is_among name cs) h

has_not_step : (b t : Bool) (n m : ℕ) → (m ≤ n → t ≡ false) → suc m ≤ cond (not b) (1 + n) 0 → (b || t) ≡ false
has_not_step true t n m more h = absurd (omega arith)
has_not_step false t n m more h = more (omega arith)

pub is_not_among : (name : List ℕ) (cs : List ClientScript) → length cs ≤ place_in name cs → has_client name cs ≡ false
is_not_among name [] h = refl
is_not_among name (c ∷ cs) h = has_not_step (bytes_eq name c.name) (has_client name cs) (place_in name cs) (length cs) (is_not_among name cs) h
