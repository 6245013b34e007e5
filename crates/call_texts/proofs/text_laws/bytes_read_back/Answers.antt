use Rattle.call_texts.proofs.HexWords.{bytes_of-hex_text}
use Rattle.call_texts.proofs.text_laws.bytes_read_back.Goals as goal

pub returns : goal.returns
returns c = bytes_of-hex_text
