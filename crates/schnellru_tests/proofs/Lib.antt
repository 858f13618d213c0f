mod ResetPairs
