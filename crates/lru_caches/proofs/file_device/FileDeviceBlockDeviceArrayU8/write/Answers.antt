use Rattle.lru_caches.proofs.file_device.FileDeviceBlockDeviceArrayU8.write.Goals as goal

pub returns-clause-gives : goal.returns-clause-gives
returns-clause-gives g c = (_, c.write_block.ensures)
