use Rattle.lru_caches.proofs.Blocks.{clean-read, good-before}
use Rattle.lru_caches.proofs.page_cache.pages.load.Goals as goal

pub returns-in_err-block-clause-clean : goal.returns-in_err-block-clause-clean
returns-in_err-block-clause-clean g c =
    let d = g.D.BlockDevice in
    clean-read d c.args.map.now.pairs c.args.device.now c.read_block.new.device
    (good-before d c.args.device.now c.read_block.new.device c.read_block.ensures.serves) c.read_block.ensures.keeps
    c.requires.clean

pub replace-requires-clause-clean : goal.replace-requires-clause-clean
replace-requires-clause-clean g c =
    let d = g.D.BlockDevice in
    clean-read d c.args.map.now.pairs c.args.device.now c.read_block.new.device
    (good-before d c.args.device.now c.read_block.new.device c.read_block.ensures.serves) c.read_block.ensures.keeps
    c.requires.clean
