use Rattle.psb_machine.proofs.LettersFit.{all_are_frames}
use Rattle.psb_machine.proofs.laws.letters_are_frames.Goals as goal

pub returns : goal.returns
returns c = all_are_frames
