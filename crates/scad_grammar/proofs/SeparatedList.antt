-- Items with separators between them are one item and those behind separators.
use Rattle.std.proofs.Common.{◌≡◌, List, [], ◌∷◌, ◌++◌, Bool, true, false, Option, Some, None, inl, inr, refl, sym, ap, ◌∙◌, append_assoc, subst}
use Rattle.scad_lexer.specs.declared.token.Token.{Token}
use Rattle.scad_grammar.specs.Languages.{Language, SingleToken, Concatenation, Repetition, OptionalSequence, AfterToken, SeparatedList, cons, first_of}
use Rattle.scad_grammar.specs.Reading.{next_is, sequence_read, trailing_items}
use Rattle.scad_grammar.specs.Faults.{TokenReader}
use Rattle.scad_grammar.proofs.lemmas.Readers.{IsReader, Opens, both_reads, same_reads}
use Rattle.scad_grammar.proofs.Trailing.{Trailing, trailing_reads}

module _ {A : Type 0} (mark : Token → Bool) (L : Language A) where
  -- the items, and maybe a separator behind them
  abbrev Cut : List A → List Token → Type 0
  Cut xs s = (m : Option Token) × (p : List Token) × (q : List Token) × Repetition (AfterToken mark L) xs p × OptionalSequence (SingleToken mark) m q × (s ≡ p ++ q)

  cut : (xs : List A) (s : List Token) → Trailing mark L xs s → Cut xs s
  cut [] s (inl h) = (None, [], [], refl, refl, h)
  cut [] s (inr h) = (Some h.0, [], s, refl, h.1, refl)
  cut (x ∷ xs) s h =
      let k = cut xs h.2 h.5 in (
        k.0,
        (h.0 ∷ h.1) ++ k.1,
        k.2,
        (h.0 ∷ h.1, k.1, (h.0, x, h.0 ∷ [], h.1, (h.3, refl), h.4, refl, refl), k.3, refl),
        k.4,
        h.6 ∙ ap (λ l. h.0 ∷ (h.1 ++ l)) k.5 ∙ ap (λ l. h.0 ∷ l) (sym (append_assoc h.1 k.1 k.2)),
      )

  paste : (xs : List A) (m : Option Token) (p q : List Token) → Repetition (AfterToken mark L) xs p → OptionalSequence (SingleToken mark) m q → Trailing mark L xs (p ++ q)
  paste [] None p q h k = inl (ap (λ l. l ++ q) h ∙ k)
  paste [] (Some t) p q h k = inr (t, (k.0, ap (λ l. l ++ q) h ∙ k.1))
  paste (x ∷ xs) m p q h k =
      let i = h.2 in (
        i.0,
        i.3,
        h.1 ++ q,
        i.4.0,
        subst_item i.1 i.3 i.5 i.6,
        paste xs m h.1 q h.3 k,
        ap (λ l. l ++ q) h.4 ∙ ap (λ l. (l ++ h.1) ++ q) (i.7 ∙ ap (λ l. l ++ i.3) i.4.1) ∙ ap (λ l. i.0 ∷ l) (append_assoc i.3 h.1 q),
      )
    where
      subst_item : (y : A) (l : List Token) → L y l → x ≡ y → L x l
      subst_item y l a e = subst (λ x. L x l) (sym e) a

module _ {A : Type 0} (mark go : Token → Bool) (r : TokenReader A) (L W : Language A) (more : A → Token → Bool) (wide : Token → Bool) (ir : IsReader r L W more)
    (first : Opens L go)
    (apart : (x : A) (rest : List Token) → next_is mark rest ≡ true → next_is (more x) rest ≡ false)
    (no_more : (x : A) (rest : List Token) → next_is wide rest ≡ false → next_is (more x) rest ≡ false)
    (no_mark : (rest : List Token) → next_is wide rest ≡ false → next_is mark rest ≡ false)
    (no_go : (rest : List Token) → next_is wide rest ≡ false → next_is go rest ≡ false) where
  ends : (y x : A) (xs : List A) (s rest : List Token) → Trailing mark L xs s → next_is wide rest ≡ false → next_is (more y) (s ++ rest) ≡ false
  ends y x [] s rest (inl h) e = ap (λ l. next_is (more y) (l ++ rest)) h ∙ no_more y rest e
  ends y x [] s rest (inr h) e = ap (λ l. next_is (more y) (l ++ rest)) h.1.1 ∙ apart y (h.0 ∷ rest) h.1.0
  ends y x (z ∷ xs) s rest h e = ap (λ l. next_is (more y) (l ++ rest)) h.6 ∙ apart y (h.0 ∷ ((h.1 ++ h.2) ++ rest)) h.3

  to : (M : Language A) (xs : List A) (s : List Token) → Concatenation cons M (Trailing mark M) xs s → SeparatedList mark M xs s
  to M xs s h =
      let k = cut mark M h.1 h.3 h.5 in
      (h.0 ∷ h.1, k.0, h.2 ++ k.1, k.2, (h.0, h.1, h.2, k.1, h.4, k.3, refl, refl), k.4, h.6, h.7 ∙ ap (λ l. h.2 ++ l) k.5 ∙ sym (append_assoc h.2 k.1 k.2))

  from : (M : Language A) (xs : List A) (s : List Token) → SeparatedList mark M xs s → Concatenation cons M (Trailing mark M) xs s
  from M xs s h =
      let i = h.4 in
      (i.0, i.1, i.2, i.3 ++ h.3, i.4, paste mark M i.1 h.1 i.3 h.3 i.5 h.5, h.6 ∙ i.6, h.7 ∙ ap (λ l. l ++ h.3) i.7 ∙ append_assoc i.2 i.3 h.3)

  pub separated_reads : IsReader (sequence_read cons r (trailing_items mark go r)) (SeparatedList mark L) (SeparatedList mark W) (λ xs. wide)
  separated_reads =
      same_reads (sequence_read cons r (trailing_items mark go r)) (Concatenation cons L (Trailing mark L)) (Concatenation cons W (Trailing mark W)) (SeparatedList mark L) (SeparatedList mark W) (λ xs. wide)
      (both_reads cons r (trailing_items mark go r) L W (Trailing mark L) (Trailing mark W) more (λ xs. wide) (λ xs. wide) ir
      (trailing_reads mark go r L W more wide ir first apart no_more no_mark no_go) ([], [], inl refl)
      (λ x xs s rest h e. ends x x xs s rest h e) (λ x xs rest e. e))
      (to L) (from L) (to W)

  listed : (M : Language A) (xs : List A) (s : List Token) → Trailing mark M xs s → Concatenation first_of (Repetition (AfterToken mark M)) (OptionalSequence (SingleToken mark)) xs s
  listed M xs s h = let k = cut mark M xs s h in (xs, k.0, k.1, k.2, k.3, k.4, refl, k.5)

  unlisted : (M : Language A) (xs : List A) (s : List Token) → Concatenation first_of (Repetition (AfterToken mark M)) (OptionalSequence (SingleToken mark)) xs s → Trailing mark M xs s
  unlisted M xs s h = subst (λ xs. Trailing mark M xs s) (sym h.6) (subst (Trailing mark M h.0) (sym h.7) (paste mark M h.0 h.1 h.2 h.3 h.4 h.5))

  -- those behind an item
  pub items_reads : IsReader (trailing_items mark go r) (Concatenation first_of (Repetition (AfterToken mark L)) (OptionalSequence (SingleToken mark))) (Concatenation first_of (Repetition (AfterToken mark W)) (OptionalSequence (SingleToken mark))) (λ xs. wide)
  items_reads = same_reads (trailing_items mark go r) (Trailing mark L) (Trailing mark W) (Concatenation first_of (Repetition (AfterToken mark L)) (OptionalSequence (SingleToken mark))) (Concatenation first_of (Repetition (AfterToken mark W)) (OptionalSequence (SingleToken mark))) (λ xs. wide) (trailing_reads mark go r L W more wide ir first apart no_more no_mark no_go) (listed L) (unlisted L) (listed W)
