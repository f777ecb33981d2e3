-- What the proofs of other crates cite. Declares nothing.
pub use Rattle.jc_text.proofs.Pieces.{pieces_some, appends-then}
pub use Rattle.jc_text.proofs.ReadLines.{line_spelled}
pub use Rattle.jc_text.proofs.SpelledWords.{text_shown}
pub use Rattle.jc_text.proofs.SpelledValues.{no_dash}
