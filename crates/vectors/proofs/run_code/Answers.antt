use Rattle.vectors.proofs.Coding.{reading_code}
use Rattle.vectors.proofs.run_code.Goals as goal

pub print_code-requires : goal.print_code-requires
print_code-requires g c = search reading_code
