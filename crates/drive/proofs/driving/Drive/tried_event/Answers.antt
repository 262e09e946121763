use Rattle.drive.proofs.driving.Drive.tried_event.Goals as goal

pub returns-then-enabled : goal.returns-then-enabled
returns-then-enabled c = c.any_event-event.ensures c.args.self.now.run.value
