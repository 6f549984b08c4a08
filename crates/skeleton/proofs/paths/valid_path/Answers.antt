use Rattle.skeleton.proofs.PathLemmas.{no_path}
use Rattle.skeleton.proofs.paths.valid_path.Goals as goal

pub returns-in-Err : goal.returns-in-Err
returns-in-Err c = no_path c.args.bytes.now c.in-Err.ensures.cases.0
