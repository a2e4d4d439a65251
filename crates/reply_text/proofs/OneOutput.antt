-- Printed replies of one script have one reading.
use Rattle.std.proofs.Common.{◌≡◌, ◌≢◌, ⊎_elim, ℕ, suc, List, [], ◌∷◌, ◌++◌, refl, sym, ap, ◌∙◌, arith, get_or, codes, append_assoc}
use Rattle.std.proofs.lemmas.List.{append_cancel_left}
use Rattle.plain_text.specs.Decimals.{numeral}
use Rattle.script_reader.specs.declared.script.Command.{Command}
use Rattle.script_reader.specs.declared.script.ClientScript.{ClientScript}
use Rattle.plain_text.specs.Separators.{newline}
use Rattle.edit_session.specs.Sessions.{State, start_state, state_after_command}
use Rattle.reply_text.specs.declared.reply.Reply.{Reply}
use Rattle.reply_text.specs.declared.reply.Reply.TheVariants as reply
use Rattle.reply_text.specs.Texts.{reply_body, replies_text, client_text, output}
use Rattle.reply_text.specs.Answers.{Fits, AllFit, IsExport}
use Rattle.reply_text.proofs.OneAnswer.{one_answer, answer_has_memory, heads_and_tails}

abbrev second : List ℕ → ℕ
second bytes = get_or bytes 1 0

-- the line for memory that ran out is no other reply's: it alone begins with `n` behind the space
other_line : (r : Reply) (x y : List ℕ) → r ≢ reply.NoMem → reply_body reply.NoMem ++ x ≡ reply_body r ++ y → ⊥
other_line (reply.Lines n) x y h e = let letter : 110 ≡ 111 = ap second e in absurd (omega (arith, letter))
other_line (reply.Refused why) x y h e = let letter : 110 ≡ 114 = ap second e in absurd (omega (arith, letter))
other_line (reply.Faulted f) x y h e = let letter : 110 ≡ 102 = ap second e in absurd (omega (arith, letter))
other_line (reply.PassedLimit c) x y h e = let letter : 110 ≡ 99 = ap second e in absurd (omega (arith, letter))
other_line reply.NoMem x y h e = absurd (h refl)
other_line (reply.Text lines) x y h e = let letter : 110 ≡ 116 = ap second e in absurd (omega (arith, letter))
other_line (reply.Solid bytes) x y h e = let letter : 110 ≡ 115 = ap second e in absurd (omega (arith, letter))

wanting : (r q : Reply) (x y : List ℕ) → r ≡ reply.NoMem → q ≢ reply.NoMem → reply_body r ++ x ≡ reply_body q ++ y → ⊥
wanting r q x y h g e = other_line q x y g (ap (λ (p : Reply). reply_body p ++ x) (sym h) ∙ e)

same_rest : (r q : Reply) (x y : List ℕ) → r ≡ q → reply_body r ++ x ≡ reply_body q ++ y → x ≡ y
same_rest r q x y h e = append_cancel_left (reply_body r) x y (e ∙ ap (λ (p : Reply). reply_body p ++ y) (sym h))

regrouped : (a b c x : List ℕ) → ((a ++ b) ++ c) ++ x ≡ a ++ (b ++ (c ++ x))
regrouped a b c x = simp append_assoc

bodies : (n : ℕ) (r q : Reply) (rs qs : List Reply) (x y : List ℕ) →
    replies_text n (r ∷ rs) ++ x ≡ replies_text n (q ∷ qs) ++ y →
    reply_body r ++ (replies_text (suc n) rs ++ x) ≡ reply_body q ++ (replies_text (suc n) qs ++ y)
bodies n r q rs qs x y e =
    append_cancel_left (numeral n) (reply_body r ++ (replies_text (suc n) rs ++ x)) (reply_body q ++ (replies_text (suc n) qs ++ y))
    (sym (regrouped (numeral n) (reply_body r) (replies_text (suc n) rs) x) ∙ e ∙ regrouped (numeral n) (reply_body q) (replies_text (suc n) qs) y)

with_first : (r q : Reply) (rs qs : List Reply) (x y : List ℕ) → r ≡ q → (rs ≡ qs) × (x ≡ y) → (r ∷ rs ≡ q ∷ qs) × (x ≡ y)
with_first r q rs qs x y e h = (heads_and_tails r q rs qs e h.0, h.1)

-- whatever follows, replies to the same commands that print the same bytes are equal, and so is what follows
same_replies : (E : List ℕ → Reply → Type 0) → IsExport E → (n : ℕ) (s : State) (cs : List Command) (rs qs : List Reply) (x y : List ℕ) →
    Fits E s cs rs → Fits E s cs qs → replies_text n rs ++ x ≡ replies_text n qs ++ y → (rs ≡ qs) × (x ≡ y)
same_replies E i n s [] [] [] x y h g e = (refl, e)
same_replies E i n s [] [] (q ∷ qs) x y h g e = absurd g
same_replies E i n s [] (r ∷ rs) qs x y h g e = absurd h
same_replies E i n s (c ∷ cs) [] qs x y h g e = absurd h
same_replies E i n s (c ∷ cs) (r ∷ rs) [] x y h g e = absurd g
same_replies E i n s (c ∷ cs) (r ∷ rs) (q ∷ qs) x y h g e =
    let printed = bodies n r q rs qs x y e in
    let after = λ (same : r ≡ q). same_rest r q (replies_text (suc n) rs ++ x) (replies_text (suc n) qs ++ y) same printed in
    ⊎_elim
    (λ a. ⊎_elim
    (λ b. let same : r ≡ q = a.0 ∙ sym b.0 in with_first r q rs qs x y same (same_replies E i (suc n) s cs rs qs x y a.2 b.2 (after same)))
    (λ b. absurd (wanting r q (replies_text (suc n) rs ++ x) (replies_text (suc n) qs ++ y) a.0 (answer_has_memory E i s c q b.0) printed))
    g)
    (λ a. ⊎_elim
    (λ b. absurd (wanting q r (replies_text (suc n) qs ++ y) (replies_text (suc n) rs ++ x) b.0 (answer_has_memory E i s c r a.0) (sym printed)))
    (λ b. let same : r ≡ q = one_answer E i s c r q a.0 b.0 in with_first r q rs qs x y same (same_replies E i (suc n) (state_after_command s c) cs rs qs x y a.1 b.1 (after same)))
    g)
    h

client_texts : (name : List ℕ) (rs qs : List Reply) (x y : List ℕ) → client_text name rs ++ x ≡ client_text name qs ++ y →
    replies_text 1 rs ++ x ≡ replies_text 1 qs ++ y
client_texts name rs qs x y e =
    let head : List ℕ = codes "== " ++ name ++ newline in
    append_cancel_left head (replies_text 1 rs ++ x) (replies_text 1 qs ++ y)
    (sym (append_assoc head (replies_text 1 rs) x) ∙ e ∙ append_assoc head (replies_text 1 qs) y)

pub same_output : (E : List ℕ → Reply → Type 0) → IsExport E → (clients : List ClientScript) (rs qs : List (List Reply)) (x y : List ℕ) →
    AllFit E clients rs → AllFit E clients qs → output clients rs ++ x ≡ output clients qs ++ y → (rs ≡ qs) × (x ≡ y)
same_output E i [] [] [] x y h g e = (refl, e)
same_output E i [] [] (q ∷ qs) x y h g e = absurd g
same_output E i [] (r ∷ rs) qs x y h g e = absurd h
same_output E i (client ∷ clients) [] qs x y h g e = absurd h
same_output E i (client ∷ clients) (r ∷ rs) [] x y h g e = absurd g
same_output E i (client ∷ clients) (r ∷ rs) (q ∷ qs) x y h g e =
    let behind = output clients rs ++ x in
    let after = output clients qs ++ y in
    let one = same_replies E i 1 start_state client.commands r q behind after h.0 g.0
    (client_texts client.name r q behind after
    (sym (append_assoc (client_text client.name r) (output clients rs) x) ∙ e ∙ append_assoc (client_text client.name q) (output clients qs) y)) in
    let more = same_output E i clients rs qs x y h.1 g.1 one.1 in
    (heads_and_tails r q rs qs one.0 more.0, more.1)
