use Rattle.pdtcli.proofs.reply.push_reply.Goals as goal

pub returns-in-TextTooLong : goal.returns-in-TextTooLong
returns-in-TextTooLong c = rw c.in-TextTooLong.is c.push_counted.ensures

pub returns-in-DeviceFailed : goal.returns-in-DeviceFailed
returns-in-DeviceFailed c = rw c.in-DeviceFailed.is c.push_counted-in-DeviceFailed.ensures
