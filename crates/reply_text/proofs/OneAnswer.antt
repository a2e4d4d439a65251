-- A command has one reply, unless memory runs out.
use Rattle.std.proofs.Common.{◌≡◌, ◌≢◌, ⊎_elim, ℕ, List, [], ◌∷◌, refl, sym, ◌∙◌, Option, Some, None}
use Rattle.std.specs.Prelude.{MatchOption}
use Rattle.script_reader.specs.declared.script.Command.{Command}
use Rattle.script_reader.specs.declared.script.Command.TheVariants.{Put, Set, Cut, Show, Export, Bad}
use Rattle.edit_session.specs.declared.fault.SessionFault.{SessionFault}
use Rattle.edit_session.specs.Sessions.{State, source_of, refusal, state_after_command}
use Rattle.reply_text.specs.declared.reply.Reply.{Reply}
use Rattle.reply_text.specs.declared.reply.Reply.TheVariants as reply
use Rattle.reply_text.specs.Answers.{AnswersAccepted, Answers, Fits, SameWants, IsExport}

one_done : (E : List ℕ → Reply → Type 0) → IsExport E → (s : State) (c : Command) (r q : Reply) → AnswersAccepted E s c r → AnswersAccepted E s c q → r ≡ q
one_done E x s (Put line text) r q h g = h ∙ sym g
one_done E x s (Set line text) r q h g = h ∙ sym g
one_done E x s (Cut from upto) r q h g = h ∙ sym g
one_done E x s Show r q h g = h ∙ sym g
one_done E x s Export r q h g = x.one (source_of s) r q h g
one_done E x s Bad r q h g = absurd h

one_answer_of : (E : List ℕ → Reply → Type 0) → IsExport E → (s : State) (c : Command) (why : Option SessionFault) (r q : Reply) →
    MatchOption why (AnswersAccepted E s c r) (λ w. r ≡ reply.Refused w) → MatchOption why (AnswersAccepted E s c q) (λ w. q ≡ reply.Refused w) → r ≡ q
one_answer_of E x s c None r q h g = one_done E x s c r q h g
one_answer_of E x s c (Some why) r q h g = h ∙ sym g

pub one_answer : (E : List ℕ → Reply → Type 0) → IsExport E → (s : State) (c : Command) (r q : Reply) → Answers E s c r → Answers E s c q → r ≡ q
one_answer E x s c r q h g = one_answer_of E x s c (refusal s c) r q h g

done_has_memory : (E : List ℕ → Reply → Type 0) → IsExport E → (s : State) (c : Command) (r : Reply) → AnswersAccepted E s c r → r ≢ reply.NoMem
done_has_memory E x s (Put line text) r h e = cc (h, e)
done_has_memory E x s (Set line text) r h e = cc (h, e)
done_has_memory E x s (Cut from upto) r h e = cc (h, e)
done_has_memory E x s Show r h e = cc (h, e)
done_has_memory E x s Export r h e = x.has_memory (source_of s) r h e
done_has_memory E x s Bad r h e = h

answer_of_has_memory : (E : List ℕ → Reply → Type 0) → IsExport E → (s : State) (c : Command) (why : Option SessionFault) (r : Reply) →
    MatchOption why (AnswersAccepted E s c r) (λ w. r ≡ reply.Refused w) → r ≢ reply.NoMem
answer_of_has_memory E x s c None r h e = done_has_memory E x s c r h e
answer_of_has_memory E x s c (Some why) r h e = cc (h, e)

pub answer_has_memory : (E : List ℕ → Reply → Type 0) → IsExport E → (s : State) (c : Command) (r : Reply) → Answers E s c r → r ≢ reply.NoMem
answer_has_memory E x s c r h = answer_of_has_memory E x s c (refusal s c) r h

pub heads_and_tails : {X : Type 0} (r q : X) (rs qs : List X) → r ≡ q → rs ≡ qs → r ∷ rs ≡ q ∷ qs
heads_and_tails r q rs qs h g = cc

pub own_replies : (E : List ℕ → Reply → Type 0) → IsExport E → (s : State) (cs : List Command) (rs qs : List Reply) →
    Fits E s cs rs → Fits E s cs qs → SameWants rs qs → rs ≡ qs
own_replies E x s [] [] [] h g w = refl
own_replies E x s [] [] (q ∷ qs) h g w = absurd g
own_replies E x s [] (r ∷ rs) qs h g w = absurd h
own_replies E x s (c ∷ cs) [] qs h g w = absurd h
own_replies E x s (c ∷ cs) (r ∷ rs) [] h g w = absurd g
own_replies E x s (c ∷ cs) (r ∷ rs) (q ∷ qs) h g w =
    ⊎_elim
    (λ a. ⊎_elim
    (λ b. heads_and_tails r q rs qs (a.0 ∙ sym b.0) (own_replies E x s cs rs qs a.2 b.2 w.1))
    (λ b. absurd (answer_has_memory E x s c q b.0 (w.0.0 a.0)))
    g)
    (λ a. ⊎_elim
    (λ b. absurd (answer_has_memory E x s c r a.0 (w.0.1 b.0)))
    (λ b. heads_and_tails r q rs qs (one_answer E x s c r q a.0 b.0) (own_replies E x (state_after_command s c) cs rs qs a.1 b.1 w.1))
    g)
    h
