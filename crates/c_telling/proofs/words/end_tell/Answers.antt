-- `c_telling::words::end_tell` meets its contract.
-- Assumes nothing.
use Rattle.c_telling.specs.Laws.Steps.{end_more, end_again, end_report, end_refused, end_absent, end_unread}
use Rattle.c_telling.proofs.words.end_tell.Goals as goal

pub returns-in-More : goal.returns-in-More
returns-in-More c = end_more c.args.words.now _ _ _ c.in-More.is c.put_telling.ensures

pub returns-in-Again : goal.returns-in-Again
returns-in-Again c = end_again c.args.words.now _ _ _ c.in-Again.is c.put_telling-in-Again.ensures

pub returns-in-Report : goal.returns-in-Report
returns-in-Report c = end_report c.args.words.now _ _ _ _ _ c.in-Report.is c.pack.ensures c.put_rest.ensures

pub returns-in-Refused : goal.returns-in-Refused
returns-in-Refused c = end_refused c.args.words.now _ _ _ _ c.in-Refused.is c.put_rest-in-Refused.ensures

pub returns-in-NoFile : goal.returns-in-NoFile
returns-in-NoFile c = end_absent c.args.words.now _ _ _ c.in-NoFile.is c.put_rest-in-NoFile.ensures

pub returns-in-Failed : goal.returns-in-Failed
returns-in-Failed c = end_unread c.args.words.now _ _ c.in-Failed.is c.put_rest-in-Failed.ensures
