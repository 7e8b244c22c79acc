use Rattle.std.specs.Prelude.{drop}
use Rattle.std.proofs.lemmas.List.{take-append-drop}
use Rattle.dn_record.proofs.list_feed.ListFeed.given.Goals as goal

pub returns-clause-prefix : goal.returns-clause-prefix
returns-clause-prefix c = (drop c.args.self.now.place c.args.self.now.feed, take-append-drop c.args.self.now.place c.args.self.now.feed)
