use Rattle.meaning.specs.Records.{key_in}
use Rattle.read_entry.specs.Labels.{labels_at}
use Rattle.write_text.specs.Lines.{line_open, context_room, target_open, target_room, set_open, paths_room, line_close, line_wrote}
use Rattle.write_text.proofs.put_line.Goals as goal

pub put-context_at-requires : goal.put-context_at-requires
put-context_at-requires c = line_open (labels_at c.args.count c.args.labels.now) (key_in c.args.body.now) c.args.out.now c.args.at c.requires.2

pub put_path_text-context_end-requires : goal.put_path_text-context_end-requires
put_path_text-context_end-requires c = (c.requires.0, context_room (labels_at c.args.count c.args.labels.now) (key_in c.args.body.now) c.args.out.now c.args.at c.requires.2 c.put-context_at.ensures c.context.ensures)

pub put-target_at-requires : goal.put-target_at-requires
put-target_at-requires c = target_open (labels_at c.args.count c.args.labels.now) (key_in c.args.body.now) c.args.out.now c.args.at c.requires.2 c.put-context_at.ensures c.context.ensures c.put_path_text-context_end.ensures

pub put_path_text-target_end-requires : goal.put_path_text-target_end-requires
put_path_text-target_end-requires c = (c.requires.0, target_room (labels_at c.args.count c.args.labels.now) (key_in c.args.body.now) c.args.out.now c.args.at c.requires.2 c.put-context_at.ensures c.context.ensures c.put_path_text-context_end.ensures c.put-target_at.ensures c.target.ensures)

pub put-paths_at-requires : goal.put-paths_at-requires
put-paths_at-requires c = set_open (labels_at c.args.count c.args.labels.now) (key_in c.args.body.now) c.args.out.now c.args.at c.requires.2 c.put-context_at.ensures c.context.ensures c.put_path_text-context_end.ensures c.put-target_at.ensures c.target.ensures c.put_path_text-target_end.ensures

pub put_paths_text-paths_end-requires : goal.put_paths_text-paths_end-requires
put_paths_text-paths_end-requires c = (c.requires.0, c.requires.1, paths_room (labels_at c.args.count c.args.labels.now) (key_in c.args.body.now) c.args.out.now c.args.at c.requires.2 c.put-context_at.ensures c.context.ensures c.put_path_text-context_end.ensures c.put-target_at.ensures c.target.ensures c.put_path_text-target_end.ensures c.put-paths_at.ensures)

pub put-requires : goal.put-requires
put-requires c = line_close (labels_at c.args.count c.args.labels.now) (key_in c.args.body.now) c.args.out.now c.args.at c.requires.2 c.put-context_at.ensures c.context.ensures c.put_path_text-context_end.ensures c.put-target_at.ensures c.target.ensures c.put_path_text-target_end.ensures c.put-paths_at.ensures c.put_paths_text-paths_end.ensures

pub returns : goal.returns
returns c = line_wrote (labels_at c.args.count c.args.labels.now) (key_in c.args.body.now) c.args.out.now c.args.at c.requires.2 c.put-context_at.ensures c.context.ensures c.put_path_text-context_end.ensures c.put-target_at.ensures c.target.ensures c.put_path_text-target_end.ensures c.put-paths_at.ensures c.put_paths_text-paths_end.ensures c.put.ensures
