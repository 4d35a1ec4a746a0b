use Rattle.std.proofs.Common.{◌≡◌, ◌<◌, ◌-◌}
use Rattle.ltx_log.specs.Readings.{placed_in}
use Rattle.ltx_log.proofs.Leading.{IsCourse}
use Rattle.ltx_log.proofs.read.read_frames.Given as goal

abbrev pub invariant-frames : goal.invariant-frames
invariant-frames g l = record {
  course : IsCourse (g.D.Disk.content l.fn.disk) (placed_in l.course.frames.items) l.course.gate l.course.epoch;
  limit : l.course.gate < 1099511627776;
  within : l.course.gate < l.size;
  kept : g.D.Disk.content l.disk ≡ g.D.Disk.content l.fn.disk;
  images : g.D.Disk.crashes l.disk ≡ g.D.Disk.crashes l.fn.disk;
  calm : g.D.Disk.faults l.disk ≡ g.D.Disk.faults l.fn.disk;
}

abbrev pub decreases-frames : goal.decreases-frames
decreases-frames g l = l.size - l.course.gate
