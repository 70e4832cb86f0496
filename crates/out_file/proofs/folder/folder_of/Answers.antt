-- `out_file::folder::folder_of` meets its contract: a folder is no longer than its path.
use native.Mathlib.Omega.{arith}
use Rattle.files.proofs.Parts.{front_length}
use Rattle.out_file.proofs.Slashes.{folder_within}
use Rattle.out_file.proofs.folder.folder_of.Goals as goal

pub slice_bounds-result-end : goal.slice_bounds-result-end
slice_bounds-result-end c =
    let p = c.args.path.now in
    front_length _ p (omega (arith, folder_within p))
