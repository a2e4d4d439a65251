use Rattle.std.proofs.Common.{◌≡◌, ◌∙◌, Option, Some, None, length, sym, ap}
use Rattle.std.specs.declared.boxed.Box.{Box}
use Rattle.std.specs.declared.alloc.Global.{Global}
use Rattle.scad_definitions.specs.Names.{newest_first}
use Rattle.scad_definitions.specs.declared.list.NameList.{NameList}
use Rattle.scad_definitions.specs.Arguments.{ArgumentsOf}
use Rattle.scad_definitions.specs.ArgumentsView.{call_arguments_of}
use Rattle.scad_definitions.specs.Lookup.{names_of_pairs, names_after}
use Rattle.scad_definitions.proofs.Looking.{names_taken, slots_kept}
use Rattle.scad_definitions.proofs.so_far.ArgumentsSoFar.with_value.Goals.{in-Some+in_ok-add_special-in-Some, in-None}
use Rattle.scad_definitions.proofs.so_far.ArgumentsSoFar.with_value.Goals as goal

none_some : (o : Option (Box (NameList (Unit {0})) Global)) (x : Box (NameList (Unit {0})) Global) → o ≡ None → o ≡ Some x → ⊥
none_some o x n s = cc

held_same : (o : Option (Box (NameList (Unit {0})) Global)) (y x : Box (NameList (Unit {0})) Global) → o ≡ Some y → o ≡ Some x → y ≡ x
held_same o y x n s = cc

pub invariant_of-result-clause-one_each : goal.invariant_of-result-clause-one_each
invariant_of-result-clause-one_each g c =
    ap (λ (given : ArgumentsOf g.row.T.Denot). length given.bound) c.in_ok-given.ensures
    ∙ slots_kept (call_arguments_of c.args.self.given) c.args.destination c.args.value ∙ c.args.self.one_each

pub invariant_of-result-clause-specials_indexed : goal.invariant_of-result-clause-specials_indexed
invariant_of-result-clause-specials_indexed g c = λ x e. elim c.match-specials.branch [
  | in-Some+in_ok-add_special-in-Some w ↦
      let same = held_same _ _ x w.specials-is e in
      sym (ap (λ (b : Box (NameList (Unit {0})) Global). names_of_pairs (newest_first b.value)) same)
      ∙ w.in_ok-add_special-in-Some.ensures
      ∙ ap (λ (i : NameList (Unit {0})). names_after (names_of_pairs (newest_first i)) c.args.destination) w.deref_mut.ensures.value
      ∙ ap (λ ns. names_after ns c.args.destination) (c.args.self.specials_indexed w.in-Some.held w.in-Some.is)
      ∙ sym (names_taken (call_arguments_of c.args.self.given) c.args.destination c.args.value)
      ∙ sym (ap (λ (given : ArgumentsOf g.row.T.Denot). names_of_pairs given.dynamic) c.in_ok-given.ensures)
  | in-None w ↦ absurd (none_some _ x w.specials-is e)
]
