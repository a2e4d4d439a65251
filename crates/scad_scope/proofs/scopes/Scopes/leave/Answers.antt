use Rattle.std.proofs.Common.{ℕ, List, ◌++◌, ◌≡◌, ◌∙◌, take, sym, ap, subst}
use Rattle.std.specs.Prelude.{IsTrue}
use Rattle.std.proofs.lemmas.List.{take-map}
use Rattle.std.proofs.Math.Seq.{take-append_seam}
use Rattle.scad_scope.specs.declared.table.Scope.{Scope}
use Rattle.scad_scope.specs.Names.{env_of}
use Rattle.scad_definitions.specs.Numbered.{are_numbers_below}
use Rattle.scad_scope.specs.Numbered.{each_row}
use Rattle.scad_scope.specs.Table.{rows_of}
use Rattle.scad_scope.specs.View.{row_of_scope, rows_in}
use Rattle.scad_scope.proofs.Envs.{cut_kept}
use Rattle.scad_scope.proofs.Numbered.{cut_passes}
use Rattle.scad_scope.proofs.scopes.Scopes.leave.Goals as goal

cut : (ss new : List Scope) (n : ℕ) → new ≡ take n ss → rows_in new ≡ take n (rows_in ss)
cut ss new n e = ap rows_in e ∙ sym (take-map row_of_scope n ss)

pub returns-clause-rows : goal.returns-clause-rows
returns-clause-rows c = cut _ _ c.args.to c.truncate.ensures.items

pub returns-clause-back : goal.returns-clause-back
returns-clause-back c = λ front behind e len. cut _ _ c.args.to c.truncate.ensures.items ∙ ap (take c.args.to) e ∙ ap (λ n. take n (front ++ behind)) (sym len) ∙ take-append_seam front behind

pub returns-clause-kept : goal.returns-clause-kept
returns-clause-kept c = λ k h. ap (λ rs. env_of rs k) (cut _ _ c.args.to c.truncate.ensures.items) ∙ cut_kept (rows_of c.args.self.now) c.args.to k c.requires.there h

pub returns-clause-numbered : goal.returns-clause-numbered
returns-clause-numbered c = record {
  functions = λ n h. subst (λ rs. IsTrue (each_row (λ r. are_numbers_below n r.functions) rs)) (sym (cut _ _ c.args.to c.truncate.ensures.items))
      (cut_passes (λ r. are_numbers_below n r.functions) c.args.to (rows_of c.args.self.now) h);
  modules = λ n h. subst (λ rs. IsTrue (each_row (λ r. are_numbers_below n r.modules) rs)) (sym (cut _ _ c.args.to c.truncate.ensures.items))
      (cut_passes (λ r. are_numbers_below n r.modules) c.args.to (rows_of c.args.self.now) h);
}
