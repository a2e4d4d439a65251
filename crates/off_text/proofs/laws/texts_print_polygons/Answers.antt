use Rattle.off_text.proofs.Drawn.{text_prints}
use Rattle.off_text.proofs.laws.texts_print_polygons.Goals as goal

pub returns : goal.returns
returns c = text_prints
