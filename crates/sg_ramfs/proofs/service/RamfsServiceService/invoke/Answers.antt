-- What is done with a call is what it may do.
use Rattle.std.proofs.Common.{◌≡◌, ◌≤◌, refl, arith}
use Rattle.sg_facts.specs.Invoke.{Points}
use Rattle.sg_ramfs.specs.RamfsFiles.{files_of}
use Rattle.sg_ramfs.proofs.Asking.{parent_there, place_there, read_serves, release_serves, seek_serves, split_serves, there, write_serves}
use Rattle.sg_ramfs.proofs.service.RamfsServiceService.invoke.Goals as goal

pub split-requires-clause-parent : goal.split-requires-clause-parent
split-requires-clause-parent g c = parent_there c.self.inside.tree (files_of c.self.inside.files) c.args.self.now c.self.view_is c.args.call.now c.requires c.in-1.is

pub read-requires-clause-there : goal.read-requires-clause-there
read-requires-clause-there g c = there c.self.inside.tree (files_of c.self.inside.files) c.args.self.now c.self.view_is c.args.call.now c.requires 2 c.in-2.is refl

pub read-requires-clause-place : goal.read-requires-clause-place
read-requires-clause-place g c = place_there c.self.inside.tree (files_of c.self.inside.files) c.args.self.now c.self.view_is c.args.call.now c.requires

pub write-requires-clause-there : goal.write-requires-clause-there
write-requires-clause-there g c = there c.self.inside.tree (files_of c.self.inside.files) c.args.self.now c.self.view_is c.args.call.now c.requires 3 c.in-3.is refl

pub write-requires-clause-place : goal.write-requires-clause-place
write-requires-clause-place g c = place_there c.self.inside.tree (files_of c.self.inside.files) c.args.self.now c.self.view_is c.args.call.now c.requires

pub seek-requires-clause-there : goal.seek-requires-clause-there
seek-requires-clause-there g c = there c.self.inside.tree (files_of c.self.inside.files) c.args.self.now c.self.view_is c.args.call.now c.requires 4 c.in-4.is refl

pub apply-requires-clause-there : goal.apply-requires-clause-there
apply-requires-clause-there g c =
    let last : c.args.call.now.fun ≤ 5 = c.requires.is_call.last in
    let is : c.args.call.now.fun ≡ 5 = omega (arith, last, c.requires.is_call.first, c.in_default) in
    there c.self.inside.tree (files_of c.self.inside.files) c.args.self.now c.self.view_is c.args.call.now c.requires 5 is refl

pub returns-in-1-clause-outcome : goal.returns-in-1-clause-outcome
returns-in-1-clause-outcome g c =
    let before : Points = record { asked = g.T.Stops.asked c.args.stops.now; struck = g.T.Stops.struck c.args.stops.now } in
    let later : Points = record { asked = g.T.Stops.asked c.split.new.stops; struck = g.T.Stops.struck c.split.new.stops } in
    (split_serves c.self.inside.tree (files_of c.self.inside.files) c.args.self.now c.self.view_is c.args.call.now c.requires before c.split.result c.split.new.tree later c.in-1.is c.split.ensures.outcome).0

pub returns-in-2-clause-outcome : goal.returns-in-2-clause-outcome
returns-in-2-clause-outcome g c =
    let before : Points = record { asked = g.T.Stops.asked c.args.stops.now; struck = g.T.Stops.struck c.args.stops.now } in
    let later : Points = record { asked = g.T.Stops.asked c.read.new.stops; struck = g.T.Stops.struck c.read.new.stops } in
    (read_serves c.self.inside.tree (files_of c.self.inside.files) c.args.self.now c.self.view_is c.args.call.now c.requires before c.read.result c.read.new.tree later c.read.ensures.tree c.in-2.is c.read.ensures.outcome).0

pub returns-in-2-clause-room : goal.returns-in-2-clause-room
returns-in-2-clause-room g c =
    let before : Points = record { asked = g.T.Stops.asked c.args.stops.now; struck = g.T.Stops.struck c.args.stops.now } in
    let later : Points = record { asked = g.T.Stops.asked c.read.new.stops; struck = g.T.Stops.struck c.read.new.stops } in
    (read_serves c.self.inside.tree (files_of c.self.inside.files) c.args.self.now c.self.view_is c.args.call.now c.requires before c.read.result c.read.new.tree later c.read.ensures.tree c.in-2.is c.read.ensures.outcome).1

pub returns-in-3-clause-outcome : goal.returns-in-3-clause-outcome
returns-in-3-clause-outcome g c =
    let before : Points = record { asked = g.T.Stops.asked c.args.stops.now; struck = g.T.Stops.struck c.args.stops.now } in
    let later : Points = record { asked = g.T.Stops.asked c.write.new.stops; struck = g.T.Stops.struck c.write.new.stops } in
    (write_serves c.self.inside.tree (files_of c.self.inside.files) c.args.self.now c.self.view_is c.args.call.now c.requires before c.write.result c.write.new.tree later (files_of c.write.new.files) c.write.ensures.tree c.in-3.is c.write.ensures.few c.write.ensures.outcome).0

pub returns-in-3-clause-room : goal.returns-in-3-clause-room
returns-in-3-clause-room g c =
    let before : Points = record { asked = g.T.Stops.asked c.args.stops.now; struck = g.T.Stops.struck c.args.stops.now } in
    let later : Points = record { asked = g.T.Stops.asked c.write.new.stops; struck = g.T.Stops.struck c.write.new.stops } in
    (write_serves c.self.inside.tree (files_of c.self.inside.files) c.args.self.now c.self.view_is c.args.call.now c.requires before c.write.result c.write.new.tree later (files_of c.write.new.files) c.write.ensures.tree c.in-3.is c.write.ensures.few c.write.ensures.outcome).1

pub returns-in-4-clause-outcome : goal.returns-in-4-clause-outcome
returns-in-4-clause-outcome g c =
    let before : Points = record { asked = g.T.Stops.asked c.args.stops.now; struck = g.T.Stops.struck c.args.stops.now } in
    let later : Points = record { asked = g.T.Stops.asked c.seek.new.stops; struck = g.T.Stops.struck c.seek.new.stops } in
    (seek_serves c.self.inside.tree (files_of c.self.inside.files) c.args.self.now c.self.view_is c.args.call.now c.requires before c.seek.result c.seek.new.tree later c.seek.ensures.tree c.in-4.is c.seek.ensures.outcome).0

pub returns-in-4-clause-room : goal.returns-in-4-clause-room
returns-in-4-clause-room g c =
    let before : Points = record { asked = g.T.Stops.asked c.args.stops.now; struck = g.T.Stops.struck c.args.stops.now } in
    let later : Points = record { asked = g.T.Stops.asked c.seek.new.stops; struck = g.T.Stops.struck c.seek.new.stops } in
    (seek_serves c.self.inside.tree (files_of c.self.inside.files) c.args.self.now c.self.view_is c.args.call.now c.requires before c.seek.result c.seek.new.tree later c.seek.ensures.tree c.in-4.is c.seek.ensures.outcome).1

pub returns-in_default-clause-outcome : goal.returns-in_default-clause-outcome
returns-in_default-clause-outcome g c =
    let last : c.args.call.now.fun ≤ 5 = c.requires.is_call.last in
    let is : c.args.call.now.fun ≡ 5 = omega (arith, last, c.requires.is_call.first, c.in_default) in
    let before : Points = record { asked = g.T.Stops.asked c.args.stops.now; struck = g.T.Stops.struck c.args.stops.now } in
    let later : Points = record { asked = g.T.Stops.asked c.apply.new.stops; struck = g.T.Stops.struck c.apply.new.stops } in
    (release_serves c.self.inside.tree (files_of c.self.inside.files) c.args.self.now c.self.view_is c.args.call.now c.requires before c.apply.result c.apply.new.self later c.apply.ensures.tree is c.apply.ensures.outcome).0
