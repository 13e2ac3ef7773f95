-- `telling::unread` meets its contract.
-- Assumes nothing.
use Rattle.telling.specs.Steps.{unread_bytes, unread_end, unread_failed, missing_said}
use Rattle.telling.proofs.unread.Goals as goal

pub returns-in-Bytes : goal.returns-in-Bytes
returns-in-Bytes c = unread_bytes _ c.args.heard _ c.in-Bytes.is

pub returns-in-End : goal.returns-in-End
returns-in-End c = unread_end _ c.args.heard c.in-End.is

pub returns-in-Failed : goal.returns-in-Failed
returns-in-Failed c = unread_failed _ c.args.heard c.in-Failed.is

pub returns-in-NoFile : goal.returns-in-NoFile
returns-in-NoFile c = missing_said _ _ c.no_file_line.result _ c.size_of.ensures c.args.heard c.in-NoFile.is c.no_file_line.ensures
