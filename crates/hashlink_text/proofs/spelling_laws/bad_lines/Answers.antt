use Rattle.hashlink_text.proofs.Readers.{says_so}
use Rattle.hashlink_text.proofs.spelling_laws.bad_lines.Goals as goal

pub returns : goal.returns
returns c = search says_so
