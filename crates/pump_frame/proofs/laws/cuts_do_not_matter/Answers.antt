use Rattle.std.proofs.Common.{[]}
use Rattle.std.specs.List.{concat}
use Rattle.pump_frame.specs.Readings.{Within}
use Rattle.pump_frame.proofs.Streams.{pieces_join, pieces_part, reads_stream, stream_reads, nothing_partial}
use Rattle.pump_frame.proofs.laws.cuts_do_not_matter.Goals as goal

pub returns : goal.returns
returns c = λ pieces frames end. (
  λ reads. reads_stream (concat pieces) [] frames end nothing_partial (pieces_join pieces (Within []) end frames reads),
  λ stream. pieces_part pieces (Within []) end frames (stream_reads (concat pieces) frames end stream),
)
