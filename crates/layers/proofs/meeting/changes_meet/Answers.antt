use Rattle.std.proofs.Common.{rules}
use Rattle.layers.proofs.meeting.changes_meet.Goals as goal

pub returns-else-is_past : goal.returns-else-is_past
returns-else-is_past c = search rules

pub returns-in-Del-upper : goal.returns-in-Del-upper
returns-in-Del-upper c = search rules

pub returns-in-Mod-upper : goal.returns-in-Mod-upper
returns-in-Mod-upper c = search rules
