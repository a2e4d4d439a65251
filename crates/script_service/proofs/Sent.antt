-- What was written in several steps.
use Rattle.std.proofs.Common.{◌≡◌, ◌⊎◌, ⊎_elim, inl, inr, ℕ, ◌<◌, ◌≤◌, List, [], ◌∷◌, ◌++◌, length, sym, ap, ◌∙◌, subst, arith, append-nil, append_assoc, length-append, refl, suc, ◌+◌, drop, get_or, drop-cons, add-one, codes}
use Rattle.plain_text.specs.Separators.{newline}
use Rattle.std.proofs.KnownBytes.{Appends-trans}
use Rattle.std.specs.Prelude.{Option, Some, None, Result, Ok, Err, IfErr, OnOk, All}
use Rattle.std.specs.Io.KnownBytes.{Appends}
use Rattle.outside_io.specs.Moves.{AppendsProperPrefix}
use Rattle.std.proofs.lemmas.List.Elements.{All-tail}
use Rattle.plain_text.specs.Decimals.{numeral}
use Rattle.script_reader.specs.declared.script.ClientScript.{ClientScript}
use Rattle.reply_text.specs.declared.reply.Reply.{Reply}
use Rattle.reply_text.specs.declared.reply.Reply.TheVariants as reply
use Rattle.reply_text.specs.Texts.{reply_body, replies_text, client_text, output}
use Rattle.script_service.specs.declared.output.OutputEnd.{OutputEnd}
use Rattle.script_service.specs.declared.output.OutputEnd.TheVariants.{Failed, NoMemory}
use Rattle.script_service.specs.Sending.{Sends, IsCutOff}

nothing_appended : (a : Option (List ℕ)) → Appends a a []
nothing_appended None = tt
nothing_appended (Some held) = sym (append-nil held)

module _ {K : Type 0} (held : K → Option (List ℕ)) where
  -- nothing was written
  pub nothing_sent : (a : K) (text : List ℕ) → Sends held a a text text
  nothing_sent a text = ([], refl, nothing_appended (held a), inl refl)

  begun_further : (a b c : K) (front more : List ℕ) → (b ≡ a) ⊎ (0 < length front) → (c ≡ b) ⊎ (0 < length more) → (c ≡ a) ⊎ (0 < length (front ++ more))
  begun_further a b c front more h g =
      ⊎_elim
      (λ e. ⊎_elim (λ f. inl (f ∙ e)) (λ some. inr (omega (arith, some, length-append front more))) g)
      (λ some. inr (omega (arith, some, length-append front more)))
      h

  -- one step, and another one for what was left
  pub sent_further : (a b c : K) (left further text : List ℕ) → Sends held a b left text → Sends held b c further left → Sends held a c further text
  sent_further a b c left further text h g = (
    h.0 ++ g.0,
    append_assoc h.0 g.0 further ∙ ap (λ (l : List ℕ). h.0 ++ l) g.1 ∙ h.1,
    Appends-trans (held a) (held b) (held c) h.0 g.0 h.2 g.2,
    begun_further a b c h.0 g.0 h.3 g.3,
  )

  -- more stands behind the text
  pub sent_before : (a b : K) (left text more : List ℕ) → Sends held a b left text → Sends held a b (left ++ more) (text ++ more)
  sent_before a b left text more h = (h.0, sym (append_assoc h.0 left more) ∙ ap (λ (l : List ℕ). l ++ more) h.1, h.2, h.3)

  pub cut_further : (a b c : K) (left text : List ℕ) (end : OutputEnd) → Sends held a b left text → IsCutOff held b c left end → IsCutOff held a c text end
  cut_further a b c left text Failed h g =
      (h.0 ++ g.0, g.1, append_assoc h.0 g.0 g.1 ∙ ap (λ (l : List ℕ). h.0 ++ l) g.2 ∙ h.1, g.3, Appends-trans (held a) (held b) (held c) h.0 g.0 h.2 g.4)
  cut_further a b c left text NoMemory h g = (g.0, g.1, sent_further a b c left g.0 text h g.2)

  pub cut_before : (a b : K) (text more : List ℕ) (end : OutputEnd) → IsCutOff held a b text end → IsCutOff held a b (text ++ more) end
  cut_before a b text more Failed g =
      (g.0, g.1 ++ more, sym (append_assoc g.0 g.1 more) ∙ ap (λ (l : List ℕ). l ++ more) g.2, omega (arith, g.3, length-append g.1 more), g.4)
  cut_before a b text more NoMemory g = (g.0 ++ more, omega (arith, g.1, length-append g.0 more), sent_before a b g.0 text more g.2)

  -- memory ran out before some of the text
  pub cut_before_all : (a : K) (text : List ℕ) → 0 < length text → IsCutOff held a a text NoMemory
  cut_before_all a text some = (text, some, nothing_sent a text)

  -- a buffer and what stands behind it are left; a piece of that goes into the buffer, some of which is written
  pub sent_piece : (a b c : K) (buffer buffer' piece rest rest' text : List ℕ) → rest ≡ piece ++ rest'
      → Sends held a b (buffer ++ rest) text → Sends held b c buffer' (buffer ++ piece) → Sends held a c (buffer' ++ rest') text
  sent_piece a b c buffer buffer' piece rest rest' text e h g =
      sent_further a b c (buffer ++ rest) (buffer' ++ rest') text h
      (subst (λ (t : List ℕ). Sends held b c (buffer' ++ rest') t) (append_assoc buffer piece rest' ∙ ap (λ (l : List ℕ). buffer ++ l) (sym e)) (sent_before b c buffer' (buffer ++ piece) rest' g))

  pub cut_piece : (a b c : K) (buffer piece rest rest' text : List ℕ) (end : OutputEnd) → rest ≡ piece ++ rest'
      → Sends held a b (buffer ++ rest) text → IsCutOff held b c (buffer ++ piece) end → IsCutOff held a c text end
  cut_piece a b c buffer piece rest rest' text end e h g =
      cut_further a b c (buffer ++ rest) text end h
      (subst (λ (t : List ℕ). IsCutOff held b c t end) (append_assoc buffer piece rest' ∙ ap (λ (l : List ℕ). buffer ++ l) (sym e)) (cut_before b c (buffer ++ piece) rest' end g))

  pub cut_result : {T : Type 0} (r : Result T OutputEnd) (a b c : K) (left text : List ℕ) → Sends held a b left text
      → IfErr r (λ end. IsCutOff held b c left end) → IfErr r (λ end. IsCutOff held a c text end)
  cut_result (Ok done) a b c left text h g = tt
  cut_result (Err end) a b c left text h g = cut_further a b c left text end h g

  -- a name was put into the buffer
  pub buffer_named : (a : K) (buffer named name : List ℕ) (rs : List Reply) → named ≡ buffer ++ (codes "== " ++ name ++ newline)
      → Sends held a a (named ++ replies_text 1 rs) (buffer ++ client_text name rs)
  buffer_named a buffer named name rs e =
      subst (λ (text : List ℕ). Sends held a a (named ++ replies_text 1 rs) text)
      (ap (λ (l : List ℕ). l ++ replies_text 1 rs) e ∙ append_assoc buffer (codes "== " ++ name ++ newline) (replies_text 1 rs))
      (nothing_sent a (named ++ replies_text 1 rs))

  -- a whole output was put into an empty buffer, some of it was written, and then an ending was put behind it
  pub with_ending : (a b : K) (buffer start text ending : List ℕ) → start ≡ [] → Sends held a b buffer (start ++ text) → Sends held a b (buffer ++ ending) (text ++ ending)
  with_ending a b buffer start text ending e h =
      sent_before a b buffer text ending (subst (λ (l : List ℕ). Sends held a b buffer (l ++ text)) e h)

  pub cut_with_ending : (a b : K) (start text ending : List ℕ) (end : OutputEnd) → start ≡ [] → IsCutOff held a b (start ++ text) end → IsCutOff held a b (text ++ ending) end
  cut_with_ending a b start text ending end e h =
      cut_before a b text ending end (subst (λ (l : List ℕ). IsCutOff held a b (l ++ text) end) e h)

  pub ending_put : (a b : K) (buffer start text ending buffer' : List ℕ) → start ≡ [] → Sends held a b buffer (start ++ text) → buffer' ≡ buffer ++ ending → Sends held a b buffer' (text ++ ending)
  ending_put a b buffer start text ending buffer' e h put =
      subst (λ (l : List ℕ). Sends held a b l (text ++ ending)) (sym put) (with_ending a b buffer start text ending e h)

  -- ---- a whole buffer was written, or the sink failed
  pub settled : {T : Type 0} (r : Result T OutputEnd) (a b : K) (buffer buffer' : List ℕ) → 0 < length buffer
      → OnOk r (Appends (held a) (held b) buffer × (buffer' ≡ [])) → OnOk r (Sends held a b buffer' buffer)
  settled (Ok done) a b buffer buffer' some h = (buffer, ap (λ (l : List ℕ). buffer ++ l) h.1 ∙ append-nil buffer, h.0, inr some)
  settled (Err end) a b buffer buffer' some h = tt

  failed_cut : (end : OutputEnd) (a b : K) (text : List ℕ) → end ≡ Failed → AppendsProperPrefix (held a) (held b) text → IsCutOff held a b text end
  failed_cut Failed a b text e h = h
  failed_cut NoMemory a b text e h = absurd (cc e)

  pub flush_cut : {T : Type 0} (r : Result T OutputEnd) (a b : K) (text : List ℕ)
      → IfErr r (λ end. (end ≡ Failed) × AppendsProperPrefix (held a) (held b) text) → IfErr r (λ end. IsCutOff held a b text end)
  flush_cut (Ok done) a b text h = tt
  flush_cut (Err end) a b text h = failed_cut end a b text h.0 h.1

  pub flushed : {T : Type 0} (r : Result T OutputEnd) (a b c : K) (buffer text : List ℕ) (P : Type 0) → Sends held a b buffer text
      → OnOk r (Appends (held b) (held c) buffer × P) → OnOk r (Appends (held a) (held c) text)
  flushed (Ok done) a b c buffer text P h g =
      subst (λ (l : List ℕ). Appends (held a) (held c) l) h.1 (Appends-trans (held a) (held b) (held c) h.0 buffer h.2 g.0)
  flushed (Err end) a b c buffer text P h g = tt

-- ---- the parts of an output
pub next_reply : (rs : List Reply) (i n : ℕ) (r : Reply) → i < length rs → r ≡ get_or rs i r → n ≡ i
    → replies_text (suc i) (drop i rs) ≡ (numeral (n + 1) ++ reply_body r) ++ replies_text (suc (i + 1)) (drop (i + 1) rs)
next_reply rs i n r within is same =
    let whole : replies_text (suc i) (drop i rs) ≡ (numeral (suc i) ++ reply_body r) ++ replies_text (suc (suc i)) (drop (suc i) rs) =
    ap (λ (left : List Reply). replies_text (suc i) left) (drop-cons rs i r within)
    ∙ ap (λ (q : Reply). replies_text (suc i) (q ∷ drop (suc i) rs)) (sym is) in
    simp (add-one, same) whole

pub next_client : (clients : List ClientScript) (left more : List (List Reply)) (i : ℕ) (client : ClientScript) (first rs : List Reply) (name : List ℕ) → i < length clients
    → client ≡ get_or clients i client → left ≡ first ∷ more → name ≡ client.name → rs ≡ first
    → output (drop i clients) left ≡ client_text name rs ++ output (drop (i + 1) clients) more
next_client clients left more i client first rs name within is cut named given =
    let whole : output (drop i clients) left ≡ client_text client.name first ++ output (drop (suc i) clients) more =
    ap (λ (rs : List (List Reply)). output (drop i clients) rs) cut
    ∙ ap (λ (cs : List ClientScript). output cs (first ∷ more)) (drop-cons clients i client within)
    ∙ ap (λ (c : ClientScript). output (c ∷ drop (suc i) clients) (first ∷ more)) (sym is) in
    simp (add-one, named, given) whole

-- the replies to all clients but the first are few
pub further_few : (left more : List (List Reply)) (first : List Reply) → left ≡ first ∷ more → All (λ (rs : List Reply). length rs ≤ 8192) left
    → All (λ (rs : List Reply). length rs ≤ 8192) more
further_few left more first e few = All-tail (λ (rs : List Reply). length rs ≤ 8192) first more (subst (All (λ (rs : List Reply). length rs ≤ 8192)) e few)

-- a reply's text, and one with a name, have bytes
body_is_some : (r : Reply) → 0 < length (reply_body r)
body_is_some (reply.Lines n) = omega arith
body_is_some (reply.Refused why) = omega arith
body_is_some (reply.Faulted f) = omega arith
body_is_some (reply.PassedLimit c) = omega arith
body_is_some reply.NoMem = omega arith
body_is_some (reply.Text lines) = omega arith
body_is_some (reply.Solid bytes) = omega arith

pub reply_is_some : (buffer : List ℕ) (number : ℕ) (r : Reply) → 0 < length (buffer ++ (numeral number ++ reply_body r))
reply_is_some buffer number r =
    omega (arith, length-append buffer (numeral number ++ reply_body r), length-append (numeral number) (reply_body r), body_is_some r)

pub client_is_some : (buffer name : List ℕ) (rs : List Reply) → 0 < length (buffer ++ client_text name rs)
client_is_some buffer name rs = omega (arith, length-append buffer (client_text name rs), length-append (codes "== ") (name ++ newline ++ replies_text 1 rs))
