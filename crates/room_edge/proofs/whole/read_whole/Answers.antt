use Rattle.room_edge.proofs.ReadEnds.{no_piece, not_opened, not_taken, taken_whole}
use Rattle.room_edge.proofs.whole.read_whole.Goals as goal

pub returns-in_default : goal.returns-in_default
returns-in_default g c =
    let all = no_piece c.args.name.now c.args.limit (g.R.Room.outside c.args.room.now) in
    record {
      bytes = all.bytes;
      left = all.left;
      short = all.short;
      missing = all.missing;
      fault = all.fault;
      long = all.long;
      tried = all.tried;
      opened = all.opened;
      counts_misses = all.counts_misses;
      counts_faults = all.counts_faults;
      misses = all.misses;
      faults = all.faults;
      only = all.only;
    }

pub returns-in-Err : goal.returns-in-Err
returns-in-Err g c =
    let all =
    not_opened c.in-Err.error c.unopened.result c.args.name.now c.args.limit
    (g.R.Room.outside c.args.room.now) (g.R.Room.outside c.open_input.new.self)
    c.unopened.ensures c.in-Err.ensures in
    record {
      bytes = all.bytes;
      left = all.left;
      short = all.short;
      missing = all.missing;
      fault = all.fault;
      long = all.long;
      tried = all.tried;
      opened = all.opened;
      counts_misses = all.counts_misses;
      counts_faults = all.counts_faults;
      misses = all.misses;
      faults = all.faults;
      only = all.only;
    }

pub returns-in-Ok-read_rest : goal.returns-in-Ok-read_rest
returns-in-Ok-read_rest g c =
    let all =
    taken_whole c.in-Ok-open_input.field-0 c.in-Ok-read_rest.field-0 c.read_rest.new.bytes
    c.args.name.now c.args.limit (g.R.Room.outside c.args.room.now)
    (g.R.Room.outside c.open_input.new.self) (g.R.Room.outside c.read_rest.new.room)
    c.in-Ok-open_input.ensures c.in-Ok-read_rest.ensures in
    record {
      bytes = all.bytes;
      left = all.left;
      short = all.short;
      missing = all.missing;
      fault = all.fault;
      long = all.long;
      tried = all.tried;
      opened = all.opened;
      counts_misses = all.counts_misses;
      counts_faults = all.counts_faults;
      misses = all.misses;
      faults = all.faults;
      only = all.only;
    }

pub returns : goal.returns
returns g c =
    let all =
    not_taken c.in-Ok-open_input.field-0 c.in-Err-read_rest.error c.read_rest.new.bytes.items
    c.args.name.now c.args.limit (g.R.Room.outside c.args.room.now)
    (g.R.Room.outside c.open_input.new.self) (g.R.Room.outside c.read_rest.new.room)
    c.in-Ok-open_input.ensures c.in-Err-read_rest.ensures in
    record {
      bytes = all.bytes;
      left = all.left;
      short = all.short;
      missing = all.missing;
      fault = all.fault;
      long = all.long;
      tried = all.tried;
      opened = all.opened;
      counts_misses = all.counts_misses;
      counts_faults = all.counts_faults;
      misses = all.misses;
      faults = all.faults;
      only = all.only;
    }
