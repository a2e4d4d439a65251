use Rattle.std.proofs.Common.{sym, subst, map, string_bytes, List, Option}
use Rattle.clap.specs.Words.{Row, Text, app_of}
use Rattle.run_words.specs.Reading.{HasFlags, MakeSettings}
use Rattle.run_words.specs.declared.settings.WordsFault.TheVariants.{BadWords}
use Rattle.run_words.proofs.Found.{err_is}
use Rattle.run_words.proofs.Whole.{chosen_taken, fine_found, flags_found, made_chosen, program_free, refused, rows_found}
use Rattle.run_words.proofs.settings.parse.Goals as goal

pub returns-in-Ok-clause-chosen : goal.returns-in-Ok-clause-chosen
returns-in-Ok-clause-chosen c settings h =
    let words : List Text = map string_bytes c.args.words.now in
    subst (λ (o : Option (Text × List Row)). MakeSettings o settings) (sym (rows_found (app_of c.in_ok-command.command) words c.in-Ok.matches c.in_ok-command.ensures c.in-Ok.ensures.matches))
    (chosen_taken words settings h).1

pub returns-in-Ok-clause-made : goal.returns-in-Ok-clause-made
returns-in-Ok-clause-made c settings range made =
    let words : List Text = map string_bytes c.args.words.now in
    made_chosen words c.requires (fine_found (app_of c.in_ok-command.command) words c.in_ok-command.ensures (c.in-Ok.ensures.kinds (program_free (app_of c.in_ok-command.command) c.in_ok-command.ensures))) settings range
    (subst (λ (o : Option (Text × List Row)). MakeSettings o settings) (rows_found (app_of c.in_ok-command.command) words c.in-Ok.matches c.in_ok-command.ensures c.in-Ok.ensures.matches) made)

pub returns-in-Ok-clause-flags : goal.returns-in-Ok-clause-flags
returns-in-Ok-clause-flags c =
    let words : List Text = map string_bytes c.args.words.now in
    subst HasFlags (sym (rows_found (app_of c.in_ok-command.command) words c.in-Ok.matches c.in_ok-command.ensures c.in-Ok.ensures.matches))
    (flags_found words c.requires (fine_found (app_of c.in_ok-command.command) words c.in_ok-command.ensures (c.in-Ok.ensures.kinds (program_free (app_of c.in_ok-command.command) c.in_ok-command.ensures))))

pub returns-in-Err-clause-refused : goal.returns-in-Err-clause-refused
returns-in-Err-clause-refused c bad settings h =
    refused (app_of c.in_ok-command.command) (map string_bytes c.args.words.now) c.in-Err.error c.in_ok-command.ensures
    (c.in-Err.ensures.kinds (program_free (app_of c.in_ok-command.command) c.in_ok-command.ensures)) (c.told.ensures (err_is c.told.result BadWords bad)) settings h
