use Rattle.std.proofs.Common.{rules}
use Rattle.escape_simd.specs.Kernels.{lanes_of}
use Rattle.escape_simd.specs.Modes.{escaping}
use Rattle.escape_simd.proofs.Whole.{text_written}
use Rattle.escape_simd.proofs.format.format_text.Goals as goal

pub returns-in-Json : goal.returns-in-Json
returns-in-Json c = text_written {lanes = lanes_of c.args.kernel} {mode = escaping c.args.mode} c.as_bytes-text.ensures.value (search (rules, c.escape_by.ensures)) c.utf8.value

pub returns-in-Html : goal.returns-in-Html
returns-in-Html c = text_written {lanes = lanes_of c.args.kernel} {mode = escaping c.args.mode} c.as_bytes-text.ensures.value (search (rules, c.escape_by-in-Html.ensures)) c.utf8.value

pub returns-in-Script : goal.returns-in-Script
returns-in-Script c = text_written {lanes = lanes_of c.args.kernel} {mode = escaping c.args.mode} c.as_bytes-text.ensures.value (search (rules, c.escape_by-in-Script.ensures)) c.utf8.value
