use Rattle.message.proofs.WholeReading.{reading}
use Rattle.message.proofs.read_sent.Goals as goal

pub returns-in-Report : goal.returns-in-Report
returns-in-Report c = search reading

pub returns-in-Unreadable : goal.returns-in-Unreadable
returns-in-Unreadable c = search reading

pub returns-in-Passed : goal.returns-in-Passed
returns-in-Passed c = search reading

pub returns-in-Searched : goal.returns-in-Searched
returns-in-Searched c = search reading
