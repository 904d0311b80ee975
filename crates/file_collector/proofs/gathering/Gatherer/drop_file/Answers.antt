use Rattle.file_collector.proofs.Gathers.{dropped}
use Rattle.file_collector.proofs.gathering.Gatherer.drop_file.Goals as goal

pub returns : goal.returns
returns g c = record {
  places = λ state message number has progress is.
      dropped g.I.Inbox.told g.I.Disk.Disk.told number message state c.args.progress.now c.args.cause c.args.self.now has progress is;
}
