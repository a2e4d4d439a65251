use Rattle.scad_grammar.specs.Grammar.{least_too_deep}
use Rattle.scad_parser.proofs.Parsed.{found, program, fault, stands, only, few}
use Rattle.scad_parser.proofs.program.parse.Goals as goal

pub returns-clause-found : goal.returns-clause-found
returns-clause-found c = found least_too_deep c.args.tokens.now c.read_program.result c.read_program.ensures

pub returns-clause-program : goal.returns-clause-program
returns-clause-program c = program least_too_deep c.args.tokens.now c.read_program.result c.read_program.ensures

pub returns-clause-fault : goal.returns-clause-fault
returns-clause-fault c = λ e. fault least_too_deep c.args.tokens.now c.read_program.result e c.read_program.ensures

pub returns-clause-place : goal.returns-clause-place
returns-clause-place c = λ e. stands least_too_deep c.args.tokens.now c.read_program.result (fault least_too_deep c.args.tokens.now c.read_program.result e c.read_program.ensures)

pub returns-clause-only : goal.returns-clause-only
returns-clause-only c = only least_too_deep c.args.tokens.now c.read_program.result c.read_program.ensures

pub returns-clause-few : goal.returns-clause-few
returns-clause-few c = few least_too_deep c.args.tokens.now c.read_program.result c.read_program.ensures
